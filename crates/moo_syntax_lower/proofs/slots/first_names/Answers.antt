use Rattle.std.proofs.Common.{◌≡◌, ◌++◌, ◌∷◌, [], true, false, subst, ◌+◌, ap, sym, ◌∙◌, drop, append_assoc}
use Rattle.std.proofs.lemmas.List.{drop_more}
use Rattle.moo_syntax_ast.specs.Slots.{firsts}
use Rattle.moo_syntax_lower.proofs.Firsts.{has, first_of, not_first}
use Rattle.moo_syntax_lower.proofs.slots.first_names.Goals as goal

pub loop-name-preserved-then-contains_key : goal.loop-name-preserved-then-contains_key
loop-name-preserved-then-contains_key c =
    let i = c.loop-name.name-index in
    let names = c.args.names.now in
    let x = c.name-item.result in
    let at : drop i names ≡ x ∷ drop (i + 1) names = drop_more names i x c.loop-name-test.true ∙ ap (λ v. v ∷ drop (i + 1) names) (sym c.name-item.is) in
    let seen : has c.loop-name.seen x ≡ true = ap (λ v. has c.loop-name.seen v) (sym c.as_bytes.ensures.value) ∙ sym c.contains_key.ensures ∙ c.if-contains_key.true in
    ap (λ v. c.loop-name.found.items ++ v) (sym (not_first c.loop-name.seen x (drop (i + 1) names) seen) ∙ ap (firsts (has c.loop-name.seen)) (sym at)) ∙ c.loop-name.invariant

pub loop-name-preserved : goal.loop-name-preserved
loop-name-preserved c =
    let i = c.loop-name.name-index in
    let names = c.args.names.now in
    let x = c.name-item.result in
    let y = c.as_bytes-in-loop-name.result.now in
    let m = c.loop-name.seen in
    let n = c.insert.new.self in
    let found = c.loop-name.found.items in
    let rest = drop (i + 1) names in
    let at : drop i names ≡ x ∷ rest = drop_more names i x c.loop-name-test.true ∙ ap (λ v. v ∷ rest) (sym c.name-item.is) in
    let same : y ≡ x = c.as_bytes-in-loop-name.ensures.value in
    let unseen : has m y ≡ false = ap (λ v. has m v) (same ∙ sym c.as_bytes.ensures.value) ∙ sym c.contains_key.ensures ∙ c.if-contains_key.false in
    let step : firsts (has m) (x ∷ rest) ≡ x ∷ firsts (has n) rest = subst (λ v. firsts (has m) (v ∷ rest) ≡ v ∷ firsts (has n) rest) same (first_of m n _ y rest unseen c.in_ok-insert.ensures.updates) in
    let pushed : c.push.new.self.items ≡ found ++ x ∷ [] = c.in_ok-push.ensures.items ∙ ap (λ v. found ++ v ∷ []) (c.new.ensures ∙ c.in_ok-try_clone.ensures) in
    ap (λ v. v ++ firsts (has n) rest) pushed ∙ append_assoc found (x ∷ []) (firsts (has n) rest) ∙ ap (λ v. found ++ v) (sym step ∙ ap (firsts (has m)) (sym at)) ∙ c.loop-name.invariant

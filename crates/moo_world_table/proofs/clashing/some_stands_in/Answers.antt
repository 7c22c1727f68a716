use Rattle.std.proofs.Common.{◌≡◌, List, ℕ, ◌∷◌, Bool, true, false, refl, sym, ◌∙◌, ap, ◌+◌, drop}
use Rattle.std.specs.List.{list_any}
use Rattle.std.proofs.lemmas.List.{drop_more}
use Rattle.moo_world_object.specs.Names.{same_name}
use Rattle.moo_world_table.proofs.clashing.some_stands_in.Goals as goal

pub returns-then-contains_key : goal.returns-then-contains_key
returns-then-contains_key c =
    let others = c.args.others.now in
    let i = c.loop-name.name-index in
    let x = c.name-item.result in
    let here : List ℕ → Bool = λ n. list_any (λ (m : List ℕ). same_name m n) c.args.names.now in
    let at : drop i others ≡ x ∷ drop (i + 1) others = drop_more others i x c.loop-name-test.true ∙ ap (λ v. v ∷ drop (i + 1) others) (sym c.name-item.is) in
    let hit : here x ≡ true = ap here (sym c.as_bytes.ensures.value) ∙ sym (c.in_ok-known.ensures c.as_bytes.result.now) ∙ sym c.contains_key.ensures ∙ c.if-contains_key.true in
    sym (c.loop-name.invariant ∙ ap (list_any here) at ∙ (rw hit refl))

pub loop-name-preserved : goal.loop-name-preserved
loop-name-preserved c =
    let others = c.args.others.now in
    let i = c.loop-name.name-index in
    let x = c.name-item.result in
    let here : List ℕ → Bool = λ n. list_any (λ (m : List ℕ). same_name m n) c.args.names.now in
    let at : drop i others ≡ x ∷ drop (i + 1) others = drop_more others i x c.loop-name-test.true ∙ ap (λ v. v ∷ drop (i + 1) others) (sym c.name-item.is) in
    let miss : here x ≡ false = ap here (sym c.as_bytes.ensures.value) ∙ sym (c.in_ok-known.ensures c.as_bytes.result.now) ∙ sym c.contains_key.ensures ∙ c.if-contains_key.false in
    c.loop-name.invariant ∙ ap (list_any here) at ∙ (rw miss refl)

use Rattle.std.proofs.Common.{◌≡◌, ◌+◌, ◌++◌, ◌∷◌, [], ◌∙◌, ap, sym, drop, append_assoc}
use Rattle.std.proofs.lemmas.List.{drop_more}
use Rattle.moo_syntax_program.specs.Order.{numbered}
use Rattle.moo_syntax_program.proofs.order.numbered.Goals as goal

pub loop-slot-preserved : goal.loop-slot-preserved
loop-slot-preserved c =
    let i = c.loop-slot.slot in
    let names = c.args.names.now in
    let slots = c.loop-slot.slots.items in
    let x = c.index-names-slot.result in
    let rest = drop (i + 1) names in
    let at : drop i names ≡ x ∷ rest = drop_more names i x c.loop-slot-test.true ∙ ap (λ v. v ∷ rest) (sym c.index-names-slot.is) in
    let pushed : c.push.new.self.items ≡ slots ++ record { name = x; slot = i } ∷ [] = c.in_ok-push.ensures.items ∙ ap (λ v. slots ++ record { name = v; slot = i } ∷ []) (c.in_ok-name.ensures ∙ c.text.ensures) in
    ap (λ v. v ++ numbered (i + 1) rest) pushed
    ∙ append_assoc slots (record { name = x; slot = i } ∷ []) (numbered (i + 1) rest)
    ∙ ap (λ v. slots ++ numbered i v) (sym at)
    ∙ c.loop-slot.invariant

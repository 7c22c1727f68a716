use Rattle.std.proofs.Common.{◌≡◌, Some, None, false, eqb, refl, sym, ◌∙◌, ap, get_or}
use Rattle.std.specs.Option.{option_eq}
use Rattle.std.proofs.lemmas.Bool.{eq-eqb, false≢true}
use Rattle.moo_world_tree.proofs.Gaps.{absent_more}
use Rattle.moo_world_tree.proofs.gapped.slot_of.Goals as goal

pub loop-i-preserved : goal.loop-i-preserved
loop-i-preserved c =
    let slots = c.args.slots.now in
    let other : option_eq eqb (get_or slots c.loop-i.i None) (Some c.args.x) ≡ false = sym c.eq-in-loop-i.ensures ∙ c.if-eq-2.false in
    absent_more slots c.loop-i.i c.args.x c.loop-i-test.true
    (λ is. false≢true (sym other ∙ ap (λ u. option_eq eqb u (Some c.args.x)) is ∙ eq-eqb c.args.x c.args.x refl)) c.loop-i.invariant

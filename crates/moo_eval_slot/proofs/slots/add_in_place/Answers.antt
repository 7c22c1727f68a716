use Rattle.std.proofs.Common.{rules, FitsSigned, w32, Some, ap, ◌∙◌}
use Rattle.std.proofs.lemmas.Int.{to_z-of_z}
use Rattle.moo_value.specs.declared.value.Value.TheVariants.{Int}
use Rattle.moo_eval_slot.proofs.slots.add_in_place.Goals as goal

pub returns-in-Some-Int-clause-added : goal.returns-in-Some-Int-clause-added
returns-in-Some-Int-clause-added c =
    λ t.
    let held : FitsSigned w32 c.in-Some-Int.held = search rules in
    let number = c.ranges.number in
    let sum : FitsSigned w32 c.sum.result = search rules in
    (c.in-Some-Int.held, c.in-Some-Int.is ∙ ap Some c.in-Some-Int.field-0-is, ap (λ n. Some (Int n)) (to_z-of_z w32 c.sum.result sum ∙ (simp to_z-of_z at c.sum.ensures)))

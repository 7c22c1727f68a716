use Rattle.std.proofs.Common.{◌≡◌, rules, FitsSigned, w32, Some, ap, sym, ◌∙◌}
use Rattle.std.proofs.lemmas.Int.{to_z-of_z}
use Rattle.moo_value.specs.View.{tree}
use Rattle.moo_builtin_operator.specs.Assignment.{before_place}
use Rattle.moo_eval_deferred.proofs.ListCalls.{some_there}
use Rattle.moo_eval_deferred.proofs.list_call.has_place.Goals as goal

pub returns-in-Int : goal.returns-in-Int
returns-in-Int c =
    λ h.
    let fits : FitsSigned w32 c.in-Int.place = search rules in
    let p = some_there c.before_place.result (rw c.is_some.ensures at h) in
    let found : Some p.0 ≡ before_place c.in-Int.place c.len.result = sym p.1 ∙ (simp to_z-of_z at c.before_place.ensures.value) in
    (c.in-Int.place, p.0, ap tree c.in-Int.is, ap (before_place c.in-Int.place) (sym c.len.ensures) ∙ sym found)

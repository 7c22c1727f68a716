use Rattle.std.proofs.Common.{◌≡◌, rules, w32, Some, None}
use Rattle.std.specs.Prelude.{FitsSigned}
use Rattle.std.proofs.lemmas.Int.{to_z-of_z}
use Rattle.moo_builtin_operator.specs.Assignment.{before_place}
use Rattle.moo_builtin_operator.proofs.Replaced.{set_in_list, set_past_list}
use Rattle.moo_builtin_operator.proofs.assignment.element_place.Goals as goal

pub returns-in-Some-clause-ok : goal.returns-in-Some-clause-ok
returns-in-Some-clause-ok c =
    let fits : FitsSigned w32 c.in-Int.index = search rules in
    let found : Some c.in-Some.before ≡ before_place c.in-Int.index c.len.result = simp to_z-of_z at c.in-Some.ensures.value in
    λ v. rw c.in-Int.is (set_in_list c.args.list.now c.in-Int.index c.in-Some.before c.len.result v c.len.ensures found)

pub returns-in-None-clause-err : goal.returns-in-None-clause-err
returns-in-None-clause-err c =
    let fits : FitsSigned w32 c.in-Int.index = search rules in
    let found : None ≡ before_place c.in-Int.index c.len.result = simp to_z-of_z at c.in-None.ensures.value in
    λ v. rw c.in-Int.is (set_past_list c.args.list.now c.in-Int.index c.len.result v c.len.ensures found)

use Rattle.std.proofs.Common.{◌≡◌, rules, w32, Some, None}
use Rattle.std.specs.Prelude.{FitsSigned}
use Rattle.std.proofs.lemmas.Int.{to_z-of_z}
use Rattle.moo_builtin_operator.specs.Assignment.{ends}
use Rattle.moo_builtin_operator.proofs.Replaced.{range_set, range_not_set}
use Rattle.moo_builtin_operator.proofs.assignment.with_range.Goals as goal

pub returns-in-Some-ends : goal.returns-in-Some-ends
returns-in-Some-ends c =
    let arm = c.in-List-Int-Int-List in
    let n = c.len-in-List-Int-Int-List in
    let low_fits : FitsSigned w32 c.in-List-Int-Int-List.low = search rules in
    let high_fits : FitsSigned w32 c.in-List-Int-Int-List.high = search rules in
    let found : Some (c.in-Some-ends.front, c.in-Some-ends.back) ≡ ends arm.low arm.high n.result = simp to_z-of_z at c.in-Some-ends.ensures.value in
    rw (arm.is-0, arm.is-1, arm.is-2, arm.is-3)
    (rw (range_set arm.base arm.value arm.low arm.high n.result c.in-Some-ends.front c.in-Some-ends.back n.ensures found) c.spliced_list.ensures)

pub returns-in-List-Int-Int-List : goal.returns-in-List-Int-Int-List
returns-in-List-Int-Int-List c =
    let arm = c.in-List-Int-Int-List in
    let n = c.len-in-List-Int-Int-List in
    let low_fits : FitsSigned w32 c.in-List-Int-Int-List.low = search rules in
    let high_fits : FitsSigned w32 c.in-List-Int-Int-List.high = search rules in
    let found : None ≡ ends arm.low arm.high n.result = simp to_z-of_z at c.in-None-ends.ensures.value in
    rw (arm.is-0, arm.is-1, arm.is-2, arm.is-3) (range_not_set arm.base arm.value arm.low arm.high n.result n.ensures found)

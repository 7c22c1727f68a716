use Rattle.std.proofs.Common.{◌≡◌, rules, w32, Some, None}
use Rattle.std.specs.Prelude.{FitsSigned}
use Rattle.std.proofs.lemmas.Int.{to_z-of_z}
use Rattle.moo_builtin_operator.specs.Assignment.{before_place}
use Rattle.moo_builtin_operator.proofs.Lists.{index_in_text, index_past_text, index_in_list, index_past_list}
use Rattle.moo_builtin_operator.proofs.place.index.Goals as goal

pub returns-in-Some : goal.returns-in-Some
returns-in-Some c =
    let arm = c.in-Str-Int in
    let fits : FitsSigned w32 c.in-Str-Int.index = search rules in
    let found : Some c.in-Some.before ≡ before_place arm.index c.len.result = simp to_z-of_z at c.in-Some.ensures.value in
    rw (arm.is-0, arm.is-1)
    (rw (index_in_text arm.string arm.index c.in-Some.before c.len.result c.len.ensures.value c.in-Some.ensures.bound found) c.text_part.ensures)

pub returns-in-None : goal.returns-in-None
returns-in-None c =
    let arm = c.in-Str-Int in
    let fits : FitsSigned w32 c.in-Str-Int.index = search rules in
    let found : None ≡ before_place arm.index c.len.result = simp to_z-of_z at c.in-None.ensures.value in
    rw (arm.is-0, arm.is-1) (index_past_text arm.string arm.index c.len.result c.len.ensures.value found)

pub returns-in-Some-before_place : goal.returns-in-Some-before_place
returns-in-Some-before_place c =
    let arm = c.in-List-Int in
    let n = c.len-in-List-Int in
    let place = c.in-Some-before_place in
    let fits : FitsSigned w32 c.in-List-Int.index = search rules in
    let found : Some place.before ≡ before_place arm.index n.result = simp to_z-of_z at c.in-Some-before_place.ensures.value in
    rw (arm.is-0, arm.is-1)
    (rw (index_in_list c.elements.result.now arm.list arm.index place.before n.result c.index-elements-before.result c.elements.ensures.value n.ensures place.ensures.bound found c.index-elements-before.is) c.shared.ensures)

pub returns-in-None-before_place : goal.returns-in-None-before_place
returns-in-None-before_place c =
    let arm = c.in-List-Int in
    let n = c.len-in-List-Int in
    let fits : FitsSigned w32 c.in-List-Int.index = search rules in
    let found : None ≡ before_place arm.index n.result = simp to_z-of_z at c.in-None-before_place.ensures.value in
    rw (arm.is-0, arm.is-1) (index_past_list arm.list arm.index n.result n.ensures found)

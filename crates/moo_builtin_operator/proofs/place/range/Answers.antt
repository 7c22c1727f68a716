use Rattle.std.proofs.Common.{◌≡◌, rules, w32, Some, None}
use Rattle.std.specs.Prelude.{FitsSigned}
use Rattle.std.proofs.lemmas.Int.{to_z-of_z}
use Rattle.moo_builtin_operator.specs.Bounds.{bounds}
use Rattle.moo_builtin_operator.proofs.Lists.{range_in_list, range_past_list}
use Rattle.moo_builtin_operator.proofs.place.range.Goals as goal

pub returns-in-Some-bounds : goal.returns-in-Some-bounds
returns-in-Some-bounds c =
    let place = c.in-List-Int-Int in
    let n = c.len-in-List-Int-Int.result in
    let low_fits : FitsSigned w32 c.in-List-Int-Int.low = search rules in
    let high_fits : FitsSigned w32 c.in-List-Int-Int.high = search rules in
    let found : Some (c.in-Some-bounds.from, c.in-Some-bounds.to) ≡ bounds place.low place.high n = simp to_z-of_z at c.in-Some-bounds.ensures.value in
    rw (place.is-0, place.is-1, place.is-2)
    (rw (range_in_list place.list place.low place.high n c.in-Some-bounds.from c.in-Some-bounds.to c.len-in-List-Int-Int.ensures found) c.list_part.ensures)

pub returns-in-None-bounds : goal.returns-in-None-bounds
returns-in-None-bounds c =
    let place = c.in-List-Int-Int in
    let n = c.len-in-List-Int-Int.result in
    let low_fits : FitsSigned w32 c.in-List-Int-Int.low = search rules in
    let high_fits : FitsSigned w32 c.in-List-Int-Int.high = search rules in
    let found : None ≡ bounds place.low place.high n = simp to_z-of_z at c.in-None-bounds.ensures.value in
    rw (place.is-0, place.is-1, place.is-2)
    (range_past_list place.list place.low place.high n c.len-in-List-Int-Int.ensures found)

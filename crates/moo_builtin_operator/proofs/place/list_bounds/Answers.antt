use Rattle.std.proofs.Common.{◌≡◌, rules, w32}
use Rattle.std.specs.Prelude.{FitsSigned}
use Rattle.std.proofs.lemmas.Int.{to_z-of_z}
use Rattle.moo_builtin_operator.specs.Bounds.{bounds}
use Rattle.moo_builtin_operator.proofs.Lists.{list_part_bounds}
use Rattle.moo_builtin_operator.proofs.place.list_bounds.Goals as goal

pub returns-in-Int-Int-clause-part : goal.returns-in-Int-Int-clause-part
returns-in-Int-Int-clause-part c =
    let place = c.in-Int-Int in
    let low_fits : FitsSigned w32 place.low = search rules in
    let high_fits : FitsSigned w32 place.high = search rules in
    let found : c.bounds.result ≡ bounds place.low place.high c.len.result = simp to_z-of_z at c.bounds.ensures.value in
    rw (place.is-0, place.is-1) (list_part_bounds c.args.list.now place.low place.high c.len.result c.bounds.result c.len.ensures found)

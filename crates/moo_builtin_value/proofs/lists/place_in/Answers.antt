use Rattle.std.proofs.Common.{ap, sym}
use Rattle.std.specs.Prelude.{Ok}
use Rattle.moo_value.specs.TreeCode.{trees_of-elements_of}
use Rattle.moo_builtin_value.proofs.lists.place_in.Goals as goal

pub returns-in-List : goal.returns-in-List
returns-in-List c = rw (c.in-List.is, trees_of-elements_of, ← c.place_of_same.ensures.value) (ap Ok (sym c.place_value.ensures))

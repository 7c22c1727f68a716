use Rattle.std.proofs.Common.{refl}
use Rattle.moo_value.specs.TreeCode.{trees_of-elements_of}
use Rattle.moo_builtin_operator.proofs.place.spliced.Goals as goal

pub returns-in-List-clause-ok : goal.returns-in-List-clause-ok
returns-in-List-clause-ok c = rw (c.in-List.is, trees_of-elements_of, c.elements.ensures.value) refl

use Rattle.moo_value.specs.TreeCode.{trees_of-elements_of}
use Rattle.moo_builtin_value.proofs.lists.appended.Goals as goal

pub returns-in-List : goal.returns-in-List
returns-in-List c = rw (c.in-List.is, trees_of-elements_of, ← c.len-end.ensures) c.put_in.ensures

use Rattle.std.proofs.Common.{rules, FitsSigned, w32}
use Rattle.std.proofs.lemmas.Int.{to_z-of_z}
use Rattle.moo_value.specs.TreeCode.{trees_of-elements_of}
use Rattle.moo_builtin_value.proofs.lists.deleted.Goals as goal

pub returns-in-Int : goal.returns-in-Int
returns-in-Int c =
    let fits : FitsSigned w32 c.in-Int.place = search rules in
    rw (c.in-List.is, c.in-Int.is, trees_of-elements_of) (simp to_z-of_z at c.delete_at.ensures)

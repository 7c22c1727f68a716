use Rattle.std.proofs.Common.{rules, FitsSigned, w32}
use Rattle.std.proofs.lemmas.Int.{to_z-of_z}
use Rattle.moo_value.specs.TreeCode.{trees_of-elements_of}
use Rattle.moo_builtin_value.proofs.lists.set.Goals as goal

pub returns-in-List-Int : goal.returns-in-List-Int
returns-in-List-Int c =
    let fits : FitsSigned w32 c.in-List-Int.place = search rules in
    rw (c.in-List-Int.is-0, c.in-List-Int.is-1, trees_of-elements_of) (simp to_z-of_z at c.set_at.ensures)

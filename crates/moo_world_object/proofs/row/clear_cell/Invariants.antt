use Rattle.std.proofs.Common.{◌≡◌, ◌++◌, map, take, drop}
use Rattle.moo_value.specs.Compare.{folded}
use Rattle.moo_world_object.specs.Cells.{at_key, emptied}
use Rattle.moo_world_object.proofs.row.clear_cell.Given as goal

abbrev pub invariant-loop-i : goal.invariant-loop-i
invariant-loop-i l = l.cells.items ≡ map (at_key (l.definer, folded l.name) emptied) (take l.i l.initial.cells.items) ++ drop l.i l.initial.cells.items

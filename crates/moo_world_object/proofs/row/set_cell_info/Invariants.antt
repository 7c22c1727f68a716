use Rattle.std.proofs.Common.{◌≡◌, ◌++◌, map, take, drop}
use Rattle.moo_value.specs.Compare.{folded}
use Rattle.moo_world_object.specs.Cells.{at_key, with_info}
use Rattle.moo_world_object.proofs.row.set_cell_info.Given as goal

abbrev pub invariant-loop-i : goal.invariant-loop-i
invariant-loop-i l = l.cells.items ≡ map (at_key (l.definer, folded l.name) (with_info l.owner l.perms)) (take l.i l.initial.cells.items) ++ drop l.i l.initial.cells.items

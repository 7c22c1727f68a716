use Rattle.std.proofs.Common.{◌≡◌, take, map}
use Rattle.moo_world_object.specs.Cells.{cleared}
use Rattle.moo_world_object.proofs.object.Object.child.Given as goal

abbrev pub invariant-loop-cell : goal.invariant-loop-cell
invariant-loop-cell l = l.cells.items ≡ map (cleared l.owner) (take l.cell-index l.above)

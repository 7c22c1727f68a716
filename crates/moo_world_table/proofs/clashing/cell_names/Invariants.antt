-- The names so far are those of the cells before this one.
use Rattle.std.proofs.Common.{◌≡◌, map, take}
use Rattle.moo_world_object.specs.Cells.{Cell}
use Rattle.moo_world_table.proofs.clashing.cell_names.Given as goal

abbrev pub invariant-loop-cell : goal.invariant-loop-cell
invariant-loop-cell l = l.names.items ≡ map (λ (c : Cell). c.name) (take l.cell-index l.cells)

use Rattle.std.proofs.Common.{◌≡◌, length, take}
use Rattle.std.specs.Prelude.{map}
use Rattle.std.specs.List.{flat_map}
use Rattle.moo_dbtext_object.specs.Objects.{cell_of, cell_lines}
use Rattle.moo_dbtext_read.proofs.object_line.lines_of_cells.Given as goal

abbrev pub invariant-loop-cell : goal.invariant-loop-cell
invariant-loop-cell l = l.lines ≡ length (flat_map cell_lines (map cell_of (take l.cell-index l.cells)))

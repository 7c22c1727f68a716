use Rattle.std.proofs.Common.{◌≡◌, ◌++◌, map, take}
use Rattle.std.specs.List.{flat_map}
use Rattle.moo_dbtext_object.specs.Lines.{unlines}
use Rattle.moo_dbtext_object.specs.Objects.{cell_lines}
use Rattle.moo_dbtext_restore.specs.Says.{recorded_cell}
use Rattle.moo_dbtext.proofs.object.put_cells.Given as goal

abbrev pub invariant-loop-cell : goal.invariant-loop-cell
invariant-loop-cell l = l.out.items ≡ l.initial.out.items ++ unlines (flat_map cell_lines (map recorded_cell (take l.cell-index l.cells)))

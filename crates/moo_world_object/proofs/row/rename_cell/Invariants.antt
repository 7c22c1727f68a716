use Rattle.std.proofs.Common.{◌≡◌, ◌++◌, take, drop}
use Rattle.moo_value.specs.Compare.{folded}
use Rattle.moo_world_object.specs.Rows.{with_new_name}
use Rattle.moo_world_object.proofs.row.rename_cell.Given as goal

abbrev pub invariant-loop-i : goal.invariant-loop-i
invariant-loop-i l = record {
  same : l.cells.items ≡ l.initial.cells.items;
  none_yet : with_new_name (l.definer, folded l.name) (folded l.new_name) l.cells.items ≡ take l.i l.cells.items ++ with_new_name (l.definer, folded l.name) (folded l.new_name) (drop l.i l.cells.items);
}

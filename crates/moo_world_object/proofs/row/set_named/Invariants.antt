use Rattle.std.proofs.Common.{◌≡◌, ◌++◌, take, drop}
use Rattle.moo_value.specs.Compare.{folded}
use Rattle.moo_value.specs.View.{tree}
use Rattle.moo_world_object.specs.Cells.{with_value}
use Rattle.moo_world_object.proofs.row.set_named.Given as goal

abbrev pub invariant-loop-i : goal.invariant-loop-i
invariant-loop-i l = record {
  same : l.cells.items ≡ l.initial.cells.items;
  none_yet : with_value (folded l.name) (tree l.value) l.cells.items ≡ take l.i l.cells.items ++ with_value (folded l.name) (tree l.value) (drop l.i l.cells.items);
}

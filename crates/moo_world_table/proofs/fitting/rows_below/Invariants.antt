use Rattle.std.proofs.Common.{◌≤◌, length}
use Rattle.moo_world_tree.specs.Walk.{step_at}
use Rattle.moo_world_table.specs.World.{fitted_over, object_of, cells_of}
use Rattle.moo_world_table.specs.Steps.{AreFitted}
use Rattle.moo_world_table.proofs.fitting.rows_below.Given as goal

abbrev pub invariant-loop-i : goal.invariant-loop-i
invariant-loop-i l = record {
  begun : 1 ≤ l.i;
  upto : l.i ≤ length l.walk;
  so_far : AreFitted l.objects l.walk (fitted_over (step_at l.walk 0).node (object_of l.objects (step_at l.walk 0).node) (cells_of l.objects l.fn.p)) l.i l.rows.items;
}

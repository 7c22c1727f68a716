-- The objects of the walk from this place on are as before.
use Rattle.std.proofs.Common.{◌≡◌, ◌≤◌, List, Option, take, length, vec_len}
use Rattle.moo_world_tree.specs.Walk.{met}
use Rattle.moo_world_object.specs.Cells.{Cell}
use Rattle.moo_world_object.specs.Objects.{Object}
use Rattle.moo_world_table.specs.Steps.{changed_along, with_clear_cell}
use Rattle.moo_world_table.proofs.defining.take_along.Given as goal

abbrev pub invariant-loop-left : goal.invariant-loop-left
invariant-loop-left l = record {
  back : (cell : Cell) (before : List (Option Object)) → l.initial.objects.items ≡ changed_along (with_clear_cell l.following cell) before (met l.walk) →
      l.objects.items ≡ changed_along (with_clear_cell l.following cell) before (met (take l.left l.walk));
  few : l.left ≤ length l.walk;
  many : vec_len l.objects ≡ vec_len l.initial.objects;
}

abbrev pub decreases-loop-left : goal.decreases-loop-left
decreases-loop-left l = l.left

-- The objects of the walk before this place have one cell more.
use Rattle.std.proofs.Common.{◌≡◌, take, vec_len}
use Rattle.moo_world_tree.specs.Walk.{met}
use Rattle.moo_world_table.specs.Steps.{changed_along, with_clear_cell}
use Rattle.moo_world_table.proofs.defining.add_clear_along.Given as goal

abbrev pub invariant-loop-i : goal.invariant-loop-i
invariant-loop-i l = record {
  done : l.objects.items ≡ changed_along (with_clear_cell l.following l.cell) l.initial.objects.items (met (take l.i l.walk));
  many : vec_len l.objects ≡ vec_len l.initial.objects;
}

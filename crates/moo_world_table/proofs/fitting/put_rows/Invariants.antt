use Rattle.std.proofs.Common.{◌≡◌, ◌≤◌, take, drop, length, vec_len}
use Rattle.moo_world_tree.specs.Walk.{met}
use Rattle.moo_world_table.specs.Steps.{with_rows}
use Rattle.moo_world_table.proofs.fitting.put_rows.Given as goal

-- from the last on, each object has its new row
abbrev pub invariant-loop-row : goal.invariant-loop-row
invariant-loop-row l = record {
  left : l.rows.items ≡ take (length l.rows.items) l.fn.rows.items;
  short : length l.rows.items ≤ length l.walk;
  same_many : vec_len l.objects ≡ vec_len l.initial.objects;
  done : l.objects.items ≡ with_rows l.initial.objects.items (drop (length l.rows.items) (met l.walk)) (drop (length l.rows.items) l.fn.rows.items);
}

abbrev pub decreases-loop-row : goal.decreases-loop-row
decreases-loop-row l = vec_len l.rows

use Rattle.std.proofs.Common.{◌≡◌, ◌≤◌, ◌+◌, ◌++◌, take, length, vec_len, vec_capacity}
use Rattle.moo_eval_frame.proofs.access.append.Given as goal

abbrev pub invariant-loop-value : goal.invariant-loop-value
invariant-loop-value l = record {
  copied : l.values.items ≡ l.initial.values.items ++ take l.value-index l.more;
  room : vec_len l.values + length l.more ≤ vec_capacity l.values + l.value-index;
}

use Rattle.std.proofs.Common.{◌≡◌, ◌+◌, ◌≤◌, ◌++◌, None, map, take, length, vec_len, vec_capacity}
use Rattle.moo_eval_slot.proofs.slots.push_unset.Given as goal

abbrev pub invariant-loop : goal.invariant-loop
invariant-loop l = record {
  pushed : l.all.items ≡ l.initial.all.items ++ map (λ name. None) (take l.index l.names);
  room : vec_len l.all + length l.names ≤ vec_capacity l.all + l.index;
}

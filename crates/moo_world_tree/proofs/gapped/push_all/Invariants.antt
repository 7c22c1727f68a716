use Rattle.std.proofs.Common.{◌≡◌, ◌++◌, Some, map, take}
use Rattle.moo_world_tree.proofs.gapped.push_all.Given as goal

abbrev pub invariant-loop-x : goal.invariant-loop-x
invariant-loop-x l = l.slots.items ≡ l.initial.slots.items ++ map (λ x. Some x) (take l.x-index l.xs)

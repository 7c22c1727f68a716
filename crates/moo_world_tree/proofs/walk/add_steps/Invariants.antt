use Rattle.std.proofs.Common.{◌≡◌, ◌++◌}
use Rattle.moo_world_tree.proofs.Walking.{steps_to}
use Rattle.moo_world_tree.proofs.walk.add_steps.Given as goal

abbrev pub invariant-loop-node : goal.invariant-loop-node
invariant-loop-node l = l.walk.items ≡ l.initial.walk.items ++ steps_to l.from l.yielded

use Rattle.std.proofs.Common.{length, ◌-◌}
use Rattle.moo_world_tree.specs.Gapped.{BeginsEmpty}
use Rattle.moo_world_tree.proofs.gapped.empty_at_front.Given as goal

-- the slots before it are empty
abbrev pub invariant-loop-front : goal.invariant-loop-front
invariant-loop-front l = BeginsEmpty l.front l.slots

abbrev pub decreases-loop-front : goal.decreases-loop-front
decreases-loop-front l = length l.slots - l.front

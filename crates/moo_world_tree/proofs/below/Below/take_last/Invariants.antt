use Rattle.std.proofs.Common.{◌≡◌, length}
use Rattle.moo_world_tree.specs.Gapped.{present}
use Rattle.moo_world_tree.proofs.below.Below.take_last.Given as goal

-- only empty slots were passed over
abbrev pub invariant-loop-slot : goal.invariant-loop-slot
invariant-loop-slot l = present l.self-inside.slots.now ≡ present l.initial.self-inside.slots.now

abbrev pub decreases-loop-slot : goal.decreases-loop-slot
decreases-loop-slot l = length l.self-inside.slots.now

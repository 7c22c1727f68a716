use Rattle.std.proofs.Common.{◌-◌, length}
use Rattle.moo_world_tree.proofs.Walking.{IsWalking}
use Rattle.moo_world_tree.proofs.Forest.walk_down.Given as goal

abbrev pub invariant-loop-i : goal.invariant-loop-i
invariant-loop-i l = IsWalking l.self l.x l.i l.walk.items

abbrev pub decreases-loop-i : goal.decreases-loop-i
decreases-loop-i l = length l.self - l.i

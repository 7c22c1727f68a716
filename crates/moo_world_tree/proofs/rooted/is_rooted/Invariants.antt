use Rattle.moo_world_tree.proofs.Endings.{IsFollowed, unmarked}
use Rattle.moo_world_tree.proofs.rooted.is_rooted.Given as goal

abbrev pub invariant-loop-x : goal.invariant-loop-x
invariant-loop-x l = IsFollowed l.nodes l.marks l.from l.at

abbrev pub decreases-loop-x : goal.decreases-loop-x
decreases-loop-x l = unmarked l.marks

use Rattle.moo_dbtext_restore.proofs.Chains.{IsFollowedTo, unmarked}
use Rattle.moo_dbtext_restore.proofs.lists.list_below.Given as goal

abbrev pub invariant-loop-y : goal.invariant-loop-y
invariant-loop-y l = IsFollowedTo l.links l.taken l.x l.list.items l.at

abbrev pub decreases-loop-y : goal.decreases-loop-y
decreases-loop-y l = unmarked l.taken

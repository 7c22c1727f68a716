use Rattle.moo_dbtext_restore.proofs.Touring.{AreListedTo}
use Rattle.moo_dbtext_restore.proofs.tour.lists_below.Given as goal

abbrev pub invariant-loop-y : goal.invariant-loop-y
invariant-loop-y l = AreListedTo l.links l.nodes.items l.y

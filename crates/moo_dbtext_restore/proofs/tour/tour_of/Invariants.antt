use Rattle.std.proofs.Common.{◌+◌, length}
use Rattle.moo_dbtext_restore.proofs.Touring.{IsUnderWay, unmet}
use Rattle.moo_dbtext_restore.proofs.tour.tour_of.Given as goal

abbrev pub invariant-loop-visit : goal.invariant-loop-visit
invariant-loop-visit l = IsUnderWay l.links l.seen.items l.todo.items l.tour.items

abbrev pub decreases-loop-visit : goal.decreases-loop-visit
decreases-loop-visit l = unmet l.nodes.items l.seen.items + length l.todo.items

use Rattle.moo_dbtext_restore.proofs.Noded.{AreMadeTo}
use Rattle.moo_dbtext_restore.proofs.nodes.nodes_along.Given as goal

abbrev pub invariant-loop-x : goal.invariant-loop-x
invariant-loop-x l = AreMadeTo l.links l.taken l.nodes.items l.x

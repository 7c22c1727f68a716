use Rattle.std.proofs.Common.{◌<◌, ℕ}
use Rattle.moo_dbtext_restore.specs.Links.{IsPlace, link_of}
use Rattle.moo_dbtext_restore.proofs.nodes.first_misplaced.Given as goal

abbrev pub invariant-loop-x : goal.invariant-loop-x
invariant-loop-x l = (y : ℕ) → y < l.x → IsPlace l.links (link_of l.links y).above

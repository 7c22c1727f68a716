use Rattle.std.proofs.Common.{◌≡◌, ℕ, None, get_or}
use Rattle.moo_world_tree.specs.Forest.{above_of}
use Rattle.moo_dbtext.proofs.NextNumbers.{next_until}
use Rattle.moo_dbtext.proofs.nexts.put_nexts.Given as goal

-- the lists of the numbers below x are done
abbrev pub invariant-loop-x : goal.invariant-loop-x
invariant-loop-x l = (y : ℕ) → get_or l.next y None ≡ next_until l.tree l.x (above_of l.tree y) y

use Rattle.std.proofs.Common.{◌≡◌, ◌++◌, ℕ, List, None, get_or, length}
use Rattle.moo_dbtext_restore.specs.Recorded.{first_in}
use Rattle.moo_dbtext.specs.Nexts.{next_or}
use Rattle.moo_dbtext.proofs.nexts.put_next.Given as goal

-- the numbers of the list after those that are left are done
abbrev pub invariant-loop-x : goal.invariant-loop-x
invariant-loop-x l = (done : List ℕ) × (l.left ++ done ≡ l.fn.list) × (l.following ≡ first_in done) × (length l.next ≡ length l.initial.next)
    × ((y : ℕ) → get_or l.next y None ≡ next_or done (get_or l.initial.next y None) y)

abbrev pub decreases-loop-x : goal.decreases-loop-x
decreases-loop-x l = length l.left

use Rattle.std.proofs.Common.{◌≡◌, ◌++◌, ◌≤◌, length}
use Rattle.memchr.specs.Find.{matches}
use Rattle.bstr.specs.Text.{MatchList, replaced_at}
use Rattle.moo_builtin_value.proofs.substitution.replaced.Given as goal

abbrev pub invariant-loop-start : goal.invariant-loop-start
invariant-loop-start l = (l.last ≤ length l.text) × MatchList l.searched (length l.wanted) l.last l.found
    × (replaced_at l.text (length l.wanted) l.other 0 (matches l.searched l.wanted 0) ≡ l.made.items ++ replaced_at l.text (length l.wanted) l.other l.last l.found)

abbrev pub decreases-loop-start : goal.decreases-loop-start
decreases-loop-start l = length l.found

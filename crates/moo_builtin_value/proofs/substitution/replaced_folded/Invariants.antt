use Rattle.std.proofs.Common.{◌≡◌, ◌++◌, ◌≤◌, ◌-◌, length}
use Rattle.memchr.specs.Find.{matches}
use Rattle.bstr.specs.Text.{replaced_at}
use Rattle.moo_value.specs.Compare.{folded}
use Rattle.moo_builtin_value.proofs.substitution.replaced_folded.Given as goal

abbrev pub invariant-loop-start : goal.invariant-loop-start
invariant-loop-start l = (l.last ≤ length l.text)
    × (replaced_at l.text (length l.wanted) l.other 0 (matches (folded l.text) (folded l.wanted) 0)
    ≡ l.made.items ++ replaced_at l.text (length l.wanted) l.other l.last (matches (folded l.text) (folded l.wanted) l.last))

abbrev pub decreases-loop-start : goal.decreases-loop-start
decreases-loop-start l = length l.text - l.last

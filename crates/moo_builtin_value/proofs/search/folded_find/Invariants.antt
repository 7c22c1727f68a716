-- The string occurs at no place before this one.
use Rattle.std.proofs.Common.{◌≤◌, ◌-◌, ◌+◌}
use Rattle.memchr.specs.Find.{Nowhere, OccursAt}
use Rattle.moo_value.specs.Compare.{folded}
use Rattle.moo_builtin_value.proofs.search.folded_find.Given as goal

abbrev pub invariant-loop-at : goal.invariant-loop-at
invariant-loop-at l = (l.from ≤ l.at) × Nowhere (OccursAt (folded l.text) (folded l.wanted)) l.from l.at

abbrev pub decreases-loop-at : goal.decreases-loop-at
decreases-loop-at l = l.last + 1 - l.at

use Rattle.std.proofs.Common.{◌≡◌, ◌-◌, length}
use Rattle.moo_eval_frame.proofs.callers.Callers.remaining.Given as goal

abbrev pub invariant-callers : goal.invariant-callers
invariant-callers l = l.count - length l.rest ≡ l.initial.count - length l.self

abbrev pub decreases-callers : goal.decreases-callers
decreases-callers l = length l.rest

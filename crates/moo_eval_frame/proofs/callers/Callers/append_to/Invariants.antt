use Rattle.std.proofs.Common.{◌≡◌, ◌++◌, length}
use Rattle.moo_eval_frame.proofs.callers.Callers.append_to.Given as goal

abbrev pub invariant-callers : goal.invariant-callers
invariant-callers l = l.all.items ++ l.rest ≡ l.initial.all.items ++ l.self

abbrev pub decreases-callers : goal.decreases-callers
decreases-callers l = length l.rest

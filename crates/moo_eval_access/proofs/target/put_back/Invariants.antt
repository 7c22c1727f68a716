use Rattle.std.proofs.Common.{◌≡◌, Ok, length}
use Rattle.moo_value.specs.View.{tree}
use Rattle.moo_eval_access.specs.Target.{rebuilt}
use Rattle.moo_eval_access.specs.SeenTarget.{steps_of}
use Rattle.moo_eval_access.proofs.target.put_back.Given as goal

abbrev pub invariant-loop-step : goal.invariant-loop-step
invariant-loop-step l = rebuilt (steps_of l.steps.items) (Ok (tree l.whole)) ≡ rebuilt (steps_of l.fn.steps.items) (Ok (tree l.fn.value))

abbrev pub decreases-loop-step : goal.decreases-loop-step
decreases-loop-step l = length l.steps.items

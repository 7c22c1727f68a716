use Rattle.std.proofs.Common.{None}
use Rattle.moo_eval_call.specs.Spliced.{extreme_from}
use Rattle.moo_eval_call.proofs.Stretches.{StandsAt}
use Rattle.moo_eval_call.proofs.spliced.extreme_number.Given as goal

abbrev pub invariant-loop-stretch : goal.invariant-loop-stretch
invariant-loop-stretch l = StandsAt (extreme_from l.extreme None) l.stretch-items l.stretch-index (extreme_from l.extreme l.so_far)

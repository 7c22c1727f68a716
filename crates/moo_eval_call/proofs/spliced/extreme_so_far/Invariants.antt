use Rattle.moo_eval_call.proofs.Extremes.{HasSeen}
use Rattle.moo_eval_call.proofs.spliced.extreme_so_far.Given as goal

abbrev pub invariant-loop-value : goal.invariant-loop-value
invariant-loop-value l = HasSeen l.extreme l.values l.value-index l.fn.so_far l.found

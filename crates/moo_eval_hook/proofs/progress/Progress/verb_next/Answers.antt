use Rattle.std.proofs.Common.{ap}
use Rattle.moo_eval_access.specs.SeenCalled.{entered_of}
use Rattle.moo_eval_semantics.specs.Progressing.{verb_next}
use Rattle.moo_eval_hook.proofs.progress.Progress.verb_next.Goals as goal

pub returns : goal.returns
returns c = ap (λ called. verb_next (entered_of called) c.args.stage) c.in_ok-called.ensures.ok

use Rattle.std.proofs.Common.{refl}
use Rattle.moo_eval_hook.proofs.evaluating.begun_below.Goals as goal

pub returns : goal.returns
returns c = rw (c.in_ok-callers.ensures, c.in_ok-given.ensures, c.running.ensures) refl

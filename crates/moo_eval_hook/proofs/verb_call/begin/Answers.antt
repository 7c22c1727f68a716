use Rattle.std.proofs.Common.{refl}
use Rattle.moo_builtin.specs.Telling.{Faults}
use Rattle.moo_eval_hook.proofs.Evaluated.{other_begin}
use Rattle.moo_eval_hook.proofs.verb_call.begin.Goals as goal

pub returns-in-Eval : goal.returns-in-Eval
returns-in-Eval c = λ k. rw c.in-Eval.is (rw c.deref.ensures.value at (c.begin_evaluating.ensures k), refl)

pub returns : goal.returns
returns c = λ k. other_begin Faults c.args.function _ _ _ _ _ c.in_default.not-Eval (c.first_progress.ensures k)

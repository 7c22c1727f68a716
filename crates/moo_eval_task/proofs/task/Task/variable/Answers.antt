use Rattle.std.proofs.Common.{ap, refl, sym}
use Rattle.std.proofs.lemmas.Result.{err_from_is_err_and}
use Rattle.moo_value.specs.declared.error_code.ErrorCode.TheVariants.{VariableNotFound}
use Rattle.moo_eval_frame.specs.Outcome.{answers, or_error}
use Rattle.moo_eval_semantics.specs.Meaning.{spent}
use Rattle.moo_eval_task.proofs.Direct.{variable_read}
use Rattle.moo_eval_task.proofs.task.Task.variable.Goals as goal

pub returns-in_ok-try_clone-in-Some-clause-meaning : goal.returns-in_ok-try_clone-in-Some-clause-meaning
returns-in_ok-try_clone-in-Some-clause-meaning c =
    λ indexed w k. rw (c.in_ok-take_tick.ensures.left, c.in_ok-try_clone-in-Some.ensures.value) (variable_read c.in_ok-take_tick.ensures.taken (ap (λ o. answers (or_error o VariableNotFound)) (sym (rw c.in-Some.is at c.get.ensures))) refl)

pub returns-in-None-clause-meaning : goal.returns-in-None-clause-meaning
returns-in-None-clause-meaning c =
    λ indexed w k. rw c.in_ok-take_tick.ensures.left (variable_read c.in_ok-take_tick.ensures.taken (ap (λ o. answers (or_error o VariableNotFound)) (sym (rw c.in-None.is at c.get.ensures))) (c.unset.ensures k))

pub returns-in_err-take_tick-clause-meaning : goal.returns-in_err-take_tick-clause-meaning
returns-in_err-take_tick-clause-meaning c =
    let p = err_from_is_err_and c.from_residual.result c.from_residual.ensures.1 in rw (p.1, p.2) (λ indexed w k. let h = c.in_err-take_tick.ensures.spent k in rw (c.in_err-take_tick.ensures.kept, h.1) (spent h.0))

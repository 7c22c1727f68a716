use Rattle.std.proofs.Common.{ap, refl, sym}
use Rattle.moo_value.specs.View.{tree}
use Rattle.moo_value.specs.declared.error_code.ErrorCode.TheVariants.{VariableNotFound}
use Rattle.moo_eval_frame.specs.Outcome.{answers, or_error}
use Rattle.moo_eval_task.proofs.Direct.{variable_read}
use Rattle.moo_eval_task.proofs.task.Task.try_variable_test.Goals as goal

pub returns-clause-some : goal.returns-clause-some
returns-clause-some c =
    let taken = c.if-not-take.ensures.taken refl in
    λ w k. (tree c.in_ok-get.field-0.now, rw taken.1 (variable_read taken.0 (ap (λ o. answers (or_error o VariableNotFound)) (sym c.in_ok-get.ensures)) refl), sym c.is_true-passes.ensures)

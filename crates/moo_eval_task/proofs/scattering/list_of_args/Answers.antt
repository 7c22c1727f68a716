use Rattle.std.proofs.Common.{ap, ◌∙◌, Some, refl}
use Rattle.moo_value.specs.View.{tree}
use Rattle.moo_value.specs.Compare.{folded}
use Rattle.moo_value.specs.declared.error_code.ErrorCode.TheVariants.{VariableNotFound}
use Rattle.moo_eval_frame.specs.Outcome.{answers, or_error}
use Rattle.moo_eval_task.proofs.Direct.{variable_read}
use Rattle.moo_eval_task.proofs.scattering.list_of_args.Goals as goal

pub returns-in-Ok : goal.returns-in-Ok
returns-in-Ok c =
    λ k s e z. rw (c.in-Variable.is, c.in-Ok.ensures) (variable_read z (ap (λ o. answers (or_error o VariableNotFound)) (ap (λ f. f (folded c.in-Variable.name)) e ∙ c.in_ok-list.ensures ∙ ap (λ v. Some (tree v)) c.in-List.is)) refl)

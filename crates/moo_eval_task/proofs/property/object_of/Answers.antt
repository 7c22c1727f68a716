use Rattle.std.proofs.Common.{ap, ◌∙◌, sym, refl, w32, rules}
use Rattle.std.proofs.lemmas.Int.{to_z-of_z}
use mir.Val.{SFits}
use Rattle.moo_value.specs.Compare.{folded}
use Rattle.moo_value.specs.declared.error_code.ErrorCode.TheVariants.{VariableNotFound}
use Rattle.moo_eval_frame.specs.Outcome.{answers, or_error}
use Rattle.moo_syntax_node.proofs.Items.{map_some}
use Rattle.moo_eval_task.proofs.Direct.{variable_read, literal_read}
use Rattle.moo_eval_task.proofs.property.object_of.Goals as goal

pub returns-in-Variable : goal.returns-in-Variable
returns-in-Variable c =
    map_some c.object_in.result (λ o h. λ k s e z. rw c.in-Variable.is (variable_read z (ap (λ o. answers (or_error o VariableNotFound)) (ap (λ f. f (folded c.in-Variable.name)) e ∙ sym c.get_base.ensures ∙ h)) refl)) c.object_in.ensures

pub returns-in-Object : goal.returns-in-Object
returns-in-Object c =
    let fits : SFits w32 c.in-Object.number = search rules in
    λ k s e z. rw (c.in-Object.is, to_z-of_z w32 c.in-Object.number fits) (literal_read z)

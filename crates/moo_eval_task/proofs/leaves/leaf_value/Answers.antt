use Rattle.std.proofs.Common.{◌≡◌, ap, ◌∙◌, sym, refl, Ok, w32, rules}
use Rattle.std.proofs.lemmas.Int.{to_z-of_z}
use mir.Val.{SFits}
use Rattle.moo_value.specs.Tree.{string}
use Rattle.moo_value.specs.View.{tree}
use Rattle.moo_value.specs.Compare.{folded}
use Rattle.moo_value.specs.declared.error_code.ErrorCode.TheVariants.{VariableNotFound}
use Rattle.moo_eval_frame.specs.Outcome.{answers, or_error}
use Rattle.moo_syntax_node.proofs.Items.{map_some}
use Rattle.moo_eval_task.proofs.Direct.{variable_read, literal_read}
use Rattle.moo_eval_task.proofs.leaves.leaf_value.Goals as goal

pub returns-in_ok-get-in-Variable : goal.returns-in_ok-get-in-Variable
returns-in_ok-get-in-Variable c =
    map_some c.copied.result (λ v h. λ k s e z. rw c.in-Variable.is (variable_read z (ap (λ o. answers (or_error o VariableNotFound)) (ap (λ f. f (folded c.in-Variable.name)) e ∙ sym c.in_ok-get-in-Variable.ensures) ∙ ap Ok (sym h)) refl)) c.copied.ensures

pub returns-in-Integer : goal.returns-in-Integer
returns-in-Integer c =
    let fits : SFits w32 c.in-Integer.number = search rules in
    λ k s e z. rw (c.in-Integer.is, to_z-of_z w32 c.in-Integer.number fits) (literal_read z)

pub returns-in-Object : goal.returns-in-Object
returns-in-Object c =
    let fits : SFits w32 c.in-Object.number = search rules in
    λ k s e z. rw (c.in-Object.is, to_z-of_z w32 c.in-Object.number fits) (literal_read z)

pub returns-in-Error : goal.returns-in-Error
returns-in-Error c = λ k s e z. rw c.in-Error.is (literal_read z)

pub returns-in-Str : goal.returns-in-Str
returns-in-Str c =
    map_some c.copied_string.result (λ v h. let t : tree v ≡ string c.in-Str.text = h ∙ ap string c.string.ensures in λ k s e z. rw (c.in-Str.is, t) (literal_read z)) c.copied_string.ensures

use Rattle.std.proofs.Common.{◌≡◌, ◌∙◌, Some, ap, sym, w32, rules}
use Rattle.std.proofs.lemmas.Int.{to_z-of_z}
use mir.Val.{SFits}
use Rattle.moo_eval_frame.specs.Seen.{variables_of}
use Rattle.moo_syntax_node.proofs.Items.{map_some}
use Rattle.moo_eval_integer.proofs.Given.{variable_gives, literal_told}
use Rattle.moo_eval_integer.proofs.operand.leaf_operand.Goals as goal

pub returns-in-Variable : goal.returns-in-Variable
returns-in-Variable c =
    map_some c.held_operand.result (λ o h. λ n m z. rw c.in-Variable.is (variable_gives (variables_of c.args.active.now.variables) z (sym c.in_ok-get.ensures ∙ ap Some (sym h)))) c.held_operand.ensures

pub returns-in-Str : goal.returns-in-Str
returns-in-Str c =
    let text : c.as_bytes.result.now ≡ c.in-Str.text = c.as_bytes.ensures.value ∙ c.string.ensures in
    λ n m z. rw (c.in-Str.is, text) (literal_told (variables_of c.args.active.now.variables) z)

pub returns-in-Integer : goal.returns-in-Integer
returns-in-Integer c =
    let fits : SFits w32 c.in-Integer.number = search rules in
    λ n m z. rw (c.in-Integer.is, to_z-of_z w32 c.in-Integer.number fits) (literal_told (variables_of c.args.active.now.variables) z)

pub returns-in-Object : goal.returns-in-Object
returns-in-Object c =
    let fits : SFits w32 c.in-Object.number = search rules in
    λ n m z. rw (c.in-Object.is, to_z-of_z w32 c.in-Object.number fits) (literal_told (variables_of c.args.active.now.variables) z)

pub returns-in-Error : goal.returns-in-Error
returns-in-Error c =
    λ n m z. rw c.in-Error.is (literal_told (variables_of c.args.active.now.variables) z)

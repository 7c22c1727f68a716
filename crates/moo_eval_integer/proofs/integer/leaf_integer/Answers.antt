use Rattle.std.proofs.Common.{w32, rules}
use Rattle.std.proofs.lemmas.Int.{to_z-of_z}
use mir.Val.{SFits}
use Rattle.moo_eval_frame.specs.Seen.{variables_of}
use Rattle.moo_syntax_node.proofs.Items.{map_some}
use Rattle.moo_eval_integer.proofs.Given.{literal_leaf, variable_leaf}
use Rattle.moo_eval_integer.proofs.integer.leaf_integer.Goals as goal

pub returns-in-Variable : goal.returns-in-Variable
returns-in-Variable c =
    map_some c.known_integer.result (λ n h. rw c.in-Variable.is (variable_leaf (variables_of c.args.active.now.variables) h)) c.known_integer.ensures

pub returns-in-Integer : goal.returns-in-Integer
returns-in-Integer c =
    let fits : SFits w32 c.in-Integer.number = search rules in
    rw (to_z-of_z w32 c.in-Integer.number fits, c.in-Integer.is) (literal_leaf (variables_of c.args.active.now.variables))

use Rattle.std.proofs.Common.{w32, rules}
use Rattle.std.proofs.lemmas.Int.{to_z-of_z}
use mir.Val.{SFits}
use Rattle.moo_value.specs.View.{tree}
use Rattle.moo_syntax_node.proofs.Items.{map_some}
use Rattle.moo_eval_integer.proofs.Functions.{length_gives, type_gives}
use Rattle.moo_eval_integer.proofs.function.integer_for.Goals as goal

pub returns-in-Length : goal.returns-in-Length
returns-in-Length c = rw c.in-Length.is (map_some c.length_in.result (λ n h. length_gives (tree c.args.held.now) h) c.length_in.ensures)

pub returns-in-Typeof : goal.returns-in-Typeof
returns-in-Typeof c =
    let fits : SFits w32 c.type_number.result = search rules in
    rw (c.in-Typeof.is, to_z-of_z w32 c.type_number.result fits, c.type_number.ensures) (type_gives (tree c.args.held.now))

use Rattle.std.proofs.Common.{w32, rules}
use Rattle.std.proofs.lemmas.Int.{to_z-of_z}
use mir.Val.{SFits}
use Rattle.moo_eval_frame.specs.Seen.{variables_of}
use Rattle.moo_syntax_node.proofs.Items.{map_some}
use Rattle.moo_eval_integer.proofs.Given.{operator_gives}
use Rattle.moo_eval_integer.proofs.integer.+operand.Goals as goal

pub binary_integer-returns-clause-value : goal.binary_integer-returns-clause-value
binary_integer-returns-clause-value t c =
    let variables = variables_of c.args.active.now.variables in
    let first : SFits w32 c.in_ok-first.first = search rules in
    let second : SFits w32 c.in_ok-second.second = search rules in
    map_some c.number_of.result (λ n h. operator_gives variables c.in_ok-take.ensures.taken c.in_ok-first.ensures.value c.in_ok-second.ensures.value h) (rw (to_z-of_z w32 c.in_ok-first.first first, to_z-of_z w32 c.in_ok-second.second second) at c.number_of.ensures)

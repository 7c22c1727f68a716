use Rattle.std.proofs.Common.{w32, rules}
use Rattle.std.proofs.lemmas.Int.{to_z-of_z}
use mir.Val.{SFits}
use Rattle.moo_eval_frame.specs.Seen.{variables_of}
use Rattle.moo_syntax_node.proofs.Items.{map_some}
use Rattle.moo_eval_integer.proofs.Given.{part_gives}
use Rattle.moo_eval_integer.proofs.operand.element_operand.Goals as goal

pub returns-clause-value : goal.returns-clause-value
returns-clause-value c =
    let place : SFits w32 c.in_ok-place.place = search rules in
    map_some c.operand_at.result (λ o h. part_gives (variables_of c.args.active.now.variables) c.in_ok-take.ensures.taken c.in_ok-held.ensures.value c.in_ok-place.ensures.value h) (rw (to_z-of_z w32 c.in_ok-place.place place) at c.operand_at.ensures)

use Rattle.moo_eval_frame.specs.Seen.{variables_of}
use Rattle.moo_syntax_node.proofs.Items.{map_some}
use Rattle.moo_eval_integer.proofs.Given.{values_give}
use Rattle.moo_eval_integer.proofs.operand.compare_operands.Goals as goal

pub returns-clause-value : goal.returns-clause-value
returns-clause-value c =
    map_some c.compared.result (λ passes h. values_give (variables_of c.args.active.now.variables) c.in_ok-take.ensures.taken c.in_ok-a.ensures.value c.in_ok-b.ensures.value h) c.compared.ensures

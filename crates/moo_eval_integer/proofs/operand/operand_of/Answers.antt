use Rattle.moo_syntax_node.proofs.Items.{map_some}
use Rattle.moo_eval_integer.proofs.operand.operand_of.Goals as goal

pub returns-in_ok-take-in_default-clause-value : goal.returns-in_ok-take-in_default-clause-value
returns-in_ok-take-in_default-clause-value c =
    map_some c.leaf_operand.result (λ o h. h _ _ c.in_ok-take-in_default.ensures.taken) c.leaf_operand.ensures

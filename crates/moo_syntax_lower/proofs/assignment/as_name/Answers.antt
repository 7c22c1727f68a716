use Rattle.std.proofs.Common.{ap, ◌∙◌}
use Rattle.moo_syntax_ast.specs.Tree.{element}
use Rattle.moo_syntax_node.proofs.Items.{map_some}
use Rattle.moo_syntax_lower.proofs.assignment.as_name.Goals as goal

pub returns : goal.returns
returns c =
    map_some c.as_variable.result (λ name h rest. c.in_ok-as_element.ensures rest ∙ ap (λ t. element t rest) h) c.as_variable.ensures

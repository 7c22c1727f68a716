use Rattle.moo_syntax_ast.proofs.EachOnce as variables
use Rattle.moo_syntax_ast.proofs.laws.slots_are_the_variables.Goals as goal

pub returns : goal.returns
returns c = record { once = variables.once; each = variables.each; order = variables.order }

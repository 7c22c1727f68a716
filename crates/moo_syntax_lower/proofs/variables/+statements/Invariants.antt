-- The names so far with those of what is left are all of them.
use Rattle.std.proofs.Common.{◌≡◌, ◌++◌, drop}
use Rattle.moo_syntax_ast.specs.View.{block, arms_of, handlers_of}
use Rattle.moo_syntax_ast.specs.Slots.{block_variables, arms_variables, handlers_variables}
use Rattle.moo_syntax_lower.proofs.variables.+statements.Given as goal

abbrev pub invariant-add_block-loop-statement : goal.invariant-add_block-loop-statement
invariant-add_block-loop-statement l = l.names.items ++ block_variables (block (drop l.statement-index l.statements)) ≡ l.fn.names.items ++ block_variables (block l.statements)

abbrev pub invariant-add_arms-loop-arm : goal.invariant-add_arms-loop-arm
invariant-add_arms-loop-arm l = l.names.items ++ arms_variables (arms_of (drop l.arm-index l.arms)) ≡ l.fn.names.items ++ arms_variables (arms_of l.arms)

abbrev pub invariant-add_handlers-loop-handler : goal.invariant-add_handlers-loop-handler
invariant-add_handlers-loop-handler l = l.names.items ++ handlers_variables (handlers_of (drop l.handler-index l.handlers)) ≡ l.fn.names.items ++ handlers_variables (handlers_of l.handlers)

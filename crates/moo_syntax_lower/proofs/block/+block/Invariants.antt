-- The sources so far with the statements, arms or handlers that are left are all of them.
use Rattle.std.proofs.Common.{◌≡◌, drop}
use Rattle.moo_syntax_ast.specs.View.{block, arms_of, handlers_of}
use Rattle.moo_syntax_node.specs.Blocks.{statements_before, arms_before, handlers_before}
use Rattle.moo_syntax_lower.proofs.block.+block.Given as goal

abbrev pub invariant-lower_block-loop-statement : goal.invariant-lower_block-loop-statement
invariant-lower_block-loop-statement l =
    statements_before l.nodes.items (block (drop l.statement-index l.statements)) ≡ block l.statements

abbrev pub invariant-lower_arms-loop-arm : goal.invariant-lower_arms-loop-arm
invariant-lower_arms-loop-arm l =
    arms_before l.nodes.items (arms_of (drop l.arm-index l.arms)) ≡ arms_of l.arms

abbrev pub invariant-lower_handlers-loop-handler : goal.invariant-lower_handlers-loop-handler
invariant-lower_handlers-loop-handler l =
    handlers_before l.nodes.items (handlers_of (drop l.handler-index l.handlers)) ≡ handlers_of l.handlers

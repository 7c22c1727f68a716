use Rattle.std.proofs.Common.{◌≡◌, ◌++◌, drop}
use Rattle.moo_syntax_ast.specs.View.{block, arms_of, handlers_of}
use Rattle.moo_unparse.specs.Listings.{lines, arm_lines, handlers_lines}
use Rattle.moo_unparse.proofs.block.+lines.Given as goal

abbrev pub invariant-write_block-loop-statement : goal.invariant-write_block-loop-statement
invariant-write_block-loop-statement l = l.lines.items ++ lines l.form l.margin (block (drop l.statement-index l.statements)) ≡ l.fn.lines.items ++ lines l.form l.margin (block l.statements)

abbrev pub invariant-write_arms-loop-arm : goal.invariant-write_arms-loop-arm
invariant-write_arms-loop-arm l = l.lines.items ++ arm_lines l.form l.margin (arms_of (drop l.arm-index l.arms)) ≡ l.fn.lines.items ++ arm_lines l.form l.margin (arms_of l.arms)

abbrev pub invariant-write_handlers-loop-handler : goal.invariant-write_handlers-loop-handler
invariant-write_handlers-loop-handler l = l.lines.items ++ handlers_lines l.form l.margin (handlers_of (drop l.handler-index l.handlers)) ≡ l.fn.lines.items ++ handlers_lines l.form l.margin (handlers_of l.handlers)

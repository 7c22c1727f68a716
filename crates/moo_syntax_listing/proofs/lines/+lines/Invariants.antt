-- The statements, arms or handlers that are left decide the result.
use Rattle.std.proofs.Common.{◌≡◌, drop}
use Rattle.moo_syntax_ast.specs.View.{block, arms_of, handlers_of}
use Rattle.moo_syntax_listing.specs.Length.{block_fits, arms_fit, handlers_fit}
use Rattle.moo_syntax_listing.proofs.lines.+lines.Given as goal

abbrev pub invariant-block_fits-loop-statement : goal.invariant-block_fits-loop-statement
invariant-block_fits-loop-statement l = block_fits (block (drop l.statement-index l.statements)) ≡ block_fits (block l.statements)

abbrev pub invariant-arms_fit-loop-arm : goal.invariant-arms_fit-loop-arm
invariant-arms_fit-loop-arm l = arms_fit (arms_of (drop l.arm-index l.arms)) ≡ arms_fit (arms_of l.arms)

abbrev pub invariant-handlers_fit-loop-handler : goal.invariant-handlers_fit-loop-handler
invariant-handlers_fit-loop-handler l = handlers_fit (handlers_of (drop l.handler-index l.handlers)) ≡ handlers_fit (handlers_of l.handlers)

use Rattle.std.proofs.Common.{◌≡◌, ◌+◌, refl, ap, ◌∙◌, drop}
use Rattle.moo_syntax_ast.specs.Tree
use Rattle.moo_syntax_ast.specs.View.{with_arm, block, arms_of, handlers_of}
use Rattle.moo_syntax_ast.proofs.Rows as given
use Rattle.moo_syntax_node.specs.declared.statement.NodeArm.TheVariants as arm
use Rattle.moo_syntax_node.specs.Blocks.{statements_before, with_source_arm, arms_before, handlers_before}
use Rattle.moo_syntax_node.proofs.StatementRows.{row_block, row_arms, row_handlers}
use Rattle.moo_syntax_lower.proofs.Statements.{statement_last, statement_at, arm_last, arm_at, handler_last, handler_at}
use Rattle.moo_syntax_lower.proofs.block.+block.Goals as goal

pub lower_block-loop-statement-preserved : goal.lower_block-loop-statement-preserved
lower_block-loop-statement-preserved t c =
    let xs = c.args.statements.now in
    let i = c.loop-statement.statement-index in
    let nodes = c.loop-statement.nodes.items in
    rw c.in_ok-push.ensures.items (statement_last nodes c.in_ok-node.node (block (drop (i + 1) xs)) ∙ ap (λ s. statements_before nodes (Tree.then s (block (drop (i + 1) xs)))) c.in_ok-node.ensures ∙ ap (statements_before nodes) (statement_at xs i c.statement-item.result c.loop-statement-test.true c.statement-item.is) ∙ c.loop-statement.invariant)

pub lower_handlers-loop-handler-preserved : goal.lower_handlers-loop-handler-preserved
lower_handlers-loop-handler-preserved t c =
    let xs = c.args.handlers.now in
    let i = c.loop-handler.handler-index in
    let nodes = c.loop-handler.nodes.items in
    rw c.in_ok-push.ensures.items (handler_last nodes c.in_ok-node.node (handlers_of (drop (i + 1) xs)) ∙ ap (handlers_before nodes) (c.in_ok-node.ensures (handlers_of (drop (i + 1) xs)) ∙ handler_at xs i c.handler-item.result c.loop-handler-test.true c.handler-item.is) ∙ c.loop-handler.invariant)

pub lower_arms-loop-arm-preserved : goal.lower_arms-loop-arm-preserved
lower_arms-loop-arm-preserved t c =
    let xs = c.args.arms.now in
    let i = c.loop-arm.arm-index in
    let nodes = c.loop-arm.nodes.items in
    let rest = arms_of (drop (i + 1) xs) in
    let node = arm.ElseIf c.in_ok-test-in-ElseIf.test c.in_ok-body-in-ElseIf.body in
    let same : with_source_arm node rest ≡ with_arm c.arm-item.result rest = rw (c.in-ElseIf.is, given.row_block, row_block, c.in_ok-test-in-ElseIf.ensures, c.in_ok-body-in-ElseIf.ensures, c.deref.ensures, c.deref-in-ElseIf.ensures.value) refl in
    rw c.in_ok-push-in-ElseIf.ensures.items (arm_last nodes node rest ∙ ap (arms_before nodes) (same ∙ arm_at xs i c.arm-item.result c.loop-arm-test.true c.arm-item.is) ∙ c.loop-arm.invariant)

pub lower_arms-returns-in-Else : goal.lower_arms-returns-in-Else
lower_arms-returns-in-Else t c =
    let xs = c.args.arms.now in
    let i = c.loop-arm.arm-index in
    let nodes = c.loop-arm.nodes.items in
    let node = arm.Else c.in_ok-body-in-Else.body in
    let same : with_source_arm node Tree.no_else ≡ with_arm c.arm-item.result (arms_of (drop (i + 1) xs)) = rw (c.in-Else.is, given.row_block, row_block, c.in_ok-body-in-Else.ensures, c.deref-in-Else.ensures.value) refl in
    rw c.in_ok-push-in-Else.ensures.items (arm_last nodes node Tree.no_else ∙ ap (arms_before nodes) (same ∙ arm_at xs i c.arm-item.result c.loop-arm-test.true c.arm-item.is) ∙ c.loop-arm.invariant)

pub lower_handler-returns-in_ok-body-in-Except : goal.lower_handler-returns-in_ok-body-in-Except
lower_handler-returns-in_ok-body-in-Except t c =
    λ rest. rw (c.in-Except.is, given.row_block, row_block, c.in_ok-codes-in-Except.ensures, c.in_ok-body-in-Except.ensures, c.deref.ensures.value) refl

pub lower_handler-returns-in_ok-body-in-ExceptAs : goal.lower_handler-returns-in_ok-body-in-ExceptAs
lower_handler-returns-in_ok-body-in-ExceptAs t c =
    λ rest. rw (c.in-ExceptAs.is, given.row_block, row_block, c.in_ok-name-in-ExceptAs.ensures, c.in_ok-codes-in-ExceptAs.ensures, c.in_ok-body-in-ExceptAs.ensures, c.deref-in-ExceptAs.ensures.value) refl

pub lower_statement-returns-in_ok-lower_arms-in-If : goal.lower_statement-returns-in_ok-lower_arms-in-If
lower_statement-returns-in_ok-lower_arms-in-If t c =
    rw (c.in-If.is, given.row_block, given.row_arms, row_block, row_arms, c.in_ok-lower_boxed-in-If.ensures, c.in_ok-lower_block-in-If.ensures, c.in_ok-lower_arms-in-If.ensures, c.deref-in-If.ensures, c.deref-in-If-2.ensures.value, c.deref-in-If-3.ensures.value) refl

pub lower_statement-returns-in_ok-lower_block-in-ForList : goal.lower_statement-returns-in_ok-lower_block-in-ForList
lower_statement-returns-in_ok-lower_block-in-ForList t c =
    rw (c.in-ForList.is, given.row_block, row_block, c.in_ok-copied_name-in-ForList.ensures, c.in_ok-lower_boxed-in-ForList.ensures, c.in_ok-lower_block-in-ForList.ensures, c.deref-in-ForList.ensures, c.deref-in-ForList-2.ensures.value) refl

pub lower_statement-returns-in_ok-lower_block-in-ForRange : goal.lower_statement-returns-in_ok-lower_block-in-ForRange
lower_statement-returns-in_ok-lower_block-in-ForRange t c =
    rw (c.in-ForRange.is, given.row_block, row_block, c.in_ok-copied_name-in-ForRange.ensures, c.in_ok-lower_boxed-in-ForRange.ensures, c.in_ok-lower_boxed-in-ForRange-2.ensures, c.in_ok-lower_block-in-ForRange.ensures, c.deref-in-ForRange.ensures, c.deref-in-ForRange-2.ensures, c.deref-in-ForRange-3.ensures.value) refl

pub lower_statement-returns-in_ok-lower_block-in-While : goal.lower_statement-returns-in_ok-lower_block-in-While
lower_statement-returns-in_ok-lower_block-in-While t c =
    rw (c.in-While.is, given.row_block, row_block, c.in_ok-copied_label-in-While.ensures, c.in_ok-lower_boxed-in-While.ensures, c.in_ok-lower_block-in-While.ensures, c.deref-in-While.ensures, c.deref-in-While-2.ensures.value) refl

pub lower_statement-returns-in_ok-lower_handlers-in-TryExcept : goal.lower_statement-returns-in_ok-lower_handlers-in-TryExcept
lower_statement-returns-in_ok-lower_handlers-in-TryExcept t c =
    rw (c.in-TryExcept.is, given.row_block, given.row_handlers, row_block, row_handlers, c.in_ok-lower_block-in-TryExcept.ensures, c.in_ok-lower_handlers-in-TryExcept.ensures, c.deref-in-TryExcept.ensures.value, c.deref-in-TryExcept-2.ensures.value) refl

pub lower_statement-returns-in_ok-lower_block-in-TryFinally-2 : goal.lower_statement-returns-in_ok-lower_block-in-TryFinally-2
lower_statement-returns-in_ok-lower_block-in-TryFinally-2 t c =
    rw (c.in-TryFinally.is, given.row_block c.in-TryFinally.body, given.row_block c.in-TryFinally.cleanup, row_block, row_block, c.in_ok-lower_block-in-TryFinally.ensures, c.in_ok-lower_block-in-TryFinally-2.ensures, c.deref-in-TryFinally.ensures.value, c.deref-in-TryFinally-2.ensures.value) refl

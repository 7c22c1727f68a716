use Rattle.std.proofs.Common.{◌≡◌, ◌++◌, ◌∷◌, [], ◌+◌, ap, sym, subst, ◌∙◌, append_assoc, drop}
use Rattle.std.specs.Prelude.{OnOk}
use Rattle.moo_syntax_ast.specs.View.{root, codes_of, block, arms_of, handlers_of}
use Rattle.moo_syntax_ast.specs.Slots.{variables, codes_variables, block_variables, arms_variables, handlers_variables, handler_variables}
use Rattle.moo_syntax_ast.proofs.Rows.{row_block, row_arms, row_handlers}
use Rattle.moo_syntax_lower.proofs.VariableSteps.{added, named, named_more, elseif_at, else_at, handlers_at}
use Rattle.moo_syntax_lower.proofs.variables.+statements.Goals as goal

pub add_arms-returns-in-Else : goal.add_arms-returns-in-Else
add_arms-returns-in-Else t c =
    let at = else_at c.args.arms.now c.loop-arm.arm-index c.arm-item.result c.loop-arm-test.true c.arm-item.is c.in-Else.body c.in-Else.is in
    subst (λ v. OnOk c.add_block-in-Else.result (c.add_block-in-Else.new.names.items ≡ v)) (ap (λ v. c.loop-arm.names.items ++ v) (sym at) ∙ c.loop-arm.invariant) (rw c.deref-in-Else.ensures.value at c.add_block-in-Else.ensures)

pub add_arms-loop-arm-preserved : goal.add_arms-loop-arm-preserved
add_arms-loop-arm-preserved t c =
    let i = c.loop-arm.arm-index in
    let at = elseif_at c.args.arms.now i c.arm-item.result c.loop-arm-test.true c.arm-item.is c.in-ElseIf.condition c.in-ElseIf.body c.in-ElseIf.is in
    added c.loop-arm.names.items (variables (root c.in-ElseIf.condition)) (block_variables (block c.in-ElseIf.body.items)) (arms_variables (arms_of (drop (i + 1) c.args.arms.now))) _ _ (rw c.deref.ensures at c.in_ok-add_expression-in-ElseIf.ensures) (rw c.deref-in-ElseIf.ensures.value at c.in_ok-add_block-in-ElseIf.ensures) ∙ ap (λ v. c.loop-arm.names.items ++ v) (sym at) ∙ c.loop-arm.invariant

pub add_handlers-loop-handler-preserved : goal.add_handlers-loop-handler-preserved
add_handlers-loop-handler-preserved t c =
    let i = c.loop-handler.handler-index in
    let rest = handlers_variables (handlers_of (drop (i + 1) c.args.handlers.now)) in
    let at = handlers_at c.args.handlers.now i c.handler-item.result c.loop-handler-test.true c.handler-item.is in
    ap (λ v. v ++ rest) c.in_ok-add_handler.ensures ∙ append_assoc c.loop-handler.names.items (handler_variables c.handler-item.result) rest ∙ ap (λ v. c.loop-handler.names.items ++ v) (sym at) ∙ c.loop-handler.invariant

pub add_handler-returns-in_ok-add_codes-in-Except : goal.add_handler-returns-in_ok-add_codes-in-Except
add_handler-returns-in_ok-add_codes-in-Except t c =
    let names = c.args.names.now.items in
    let body = block_variables (block c.in-Except.body.items) in
    rw (c.in-Except.is, row_block) (subst (λ v. OnOk c.add_block.result (c.add_block.new.names.items ≡ v)) (ap (λ v. v ++ body) c.in_ok-add_codes-in-Except.ensures ∙ append_assoc names (codes_variables (codes_of c.in-Except.errors)) body) (rw c.deref.ensures.value at c.add_block.ensures))

pub add_handler-returns-in_ok-add_codes-in-ExceptAs : goal.add_handler-returns-in_ok-add_codes-in-ExceptAs
add_handler-returns-in_ok-add_codes-in-ExceptAs t c =
    let names = c.args.names.now.items in
    let codes = codes_variables (codes_of c.in-ExceptAs.errors) in
    let body = block_variables (block c.in-ExceptAs.body.items) in
    let one = c.in-ExceptAs.name ∷ [] in
    rw (c.in-ExceptAs.is, row_block) (subst (λ v. OnOk c.add_block-in-ExceptAs.result (c.add_block-in-ExceptAs.new.names.items ≡ v)) (ap (λ v. v ++ body) (c.in_ok-add_codes-in-ExceptAs.ensures ∙ ap (λ v. v ++ codes) c.in_ok-add_name-in-ExceptAs.ensures) ∙ append_assoc (names ++ one) codes body ∙ append_assoc names one (codes ++ body)) (rw c.deref-in-ExceptAs.ensures.value at c.add_block-in-ExceptAs.ensures))

pub add_statement-returns-in_ok-add_block-in-If : goal.add_statement-returns-in_ok-add_block-in-If
add_statement-returns-in_ok-add_block-in-If t c = rw (c.in-If.is, row_block, row_arms, ← c.deref-in-If.ensures, ← c.deref-in-If-2.ensures.value, ← c.deref-in-If-3.ensures.value) (simp append_assoc (simp append_assoc at (rw (c.in_ok-add_block-in-If.ensures, c.in_ok-add_expression-in-If.ensures) at c.add_arms.ensures)))

pub add_statement-returns-in_ok-add_expression-in-ForList : goal.add_statement-returns-in_ok-add_expression-in-ForList
add_statement-returns-in_ok-add_expression-in-ForList t c =
    let list = variables (root c.in-ForList.list) in
    let body = block_variables (block c.in-ForList.body.items) in
    let all = ap (λ v. v ++ body) ((rw c.deref-in-ForList.ensures at c.in_ok-add_expression-in-ForList.ensures) ∙ ap (λ v. v ++ list) c.in_ok-add_name-in-ForList.ensures) ∙ named c.args.names.now.items c.in-ForList.name list body in
    rw (c.in-ForList.is, row_block) (subst (λ v. OnOk c.add_block-in-ForList.result (c.add_block-in-ForList.new.names.items ≡ v)) all (rw c.deref-in-ForList-2.ensures.value at c.add_block-in-ForList.ensures))

pub add_statement-returns-in_ok-add_expression-in-ForRange-2 : goal.add_statement-returns-in_ok-add_expression-in-ForRange-2
add_statement-returns-in_ok-add_expression-in-ForRange-2 t c =
    let low = variables (root c.in-ForRange.low) in
    let high = variables (root c.in-ForRange.high) in
    let body = block_variables (block c.in-ForRange.body.items) in
    let all = ap (λ v. v ++ body) ((rw c.deref-in-ForRange-2.ensures at c.in_ok-add_expression-in-ForRange-2.ensures) ∙ ap (λ v. v ++ high) ((rw c.deref-in-ForRange.ensures at c.in_ok-add_expression-in-ForRange.ensures) ∙ ap (λ v. v ++ low) c.in_ok-add_name-in-ForRange.ensures)) ∙ named_more c.args.names.now.items c.in-ForRange.name low high body in
    rw (c.in-ForRange.is, row_block) (subst (λ v. OnOk c.add_block-in-ForRange.result (c.add_block-in-ForRange.new.names.items ≡ v)) all (rw c.deref-in-ForRange-3.ensures.value at c.add_block-in-ForRange.ensures))

pub add_statement-returns-in_ok-add_expression-in-While : goal.add_statement-returns-in_ok-add_expression-in-While
add_statement-returns-in_ok-add_expression-in-While t c = rw (c.in-While.is, row_block, ← c.deref-in-While.ensures, ← c.deref-in-While-2.ensures.value) (simp append_assoc at (rw c.in_ok-add_expression-in-While.ensures at c.add_block-in-While.ensures))

pub add_statement-returns-in_ok-add_block-in-TryExcept : goal.add_statement-returns-in_ok-add_block-in-TryExcept
add_statement-returns-in_ok-add_block-in-TryExcept t c = rw (c.in-TryExcept.is, row_block, row_handlers, ← c.deref-in-TryExcept.ensures.value, ← c.deref-in-TryExcept-2.ensures.value) (simp append_assoc at (rw c.in_ok-add_block-in-TryExcept.ensures at c.add_handlers.ensures))

pub add_statement-returns-in_ok-add_block-in-TryFinally : goal.add_statement-returns-in_ok-add_block-in-TryFinally
add_statement-returns-in_ok-add_block-in-TryFinally t c = rw (c.in-TryFinally.is, row_block c.in-TryFinally.body, row_block c.in-TryFinally.cleanup, ← c.deref-in-TryFinally.ensures.value, ← c.deref-in-TryFinally-2.ensures.value) (simp append_assoc at (rw c.in_ok-add_block-in-TryFinally.ensures at c.add_block-in-TryFinally-2.ensures))

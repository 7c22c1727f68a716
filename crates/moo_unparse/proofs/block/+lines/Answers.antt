use Rattle.std.proofs.Common.{◌≡◌, ◌++◌, ◌∷◌, [], ◌+◌, ap, sym, subst, ◌∙◌, append_assoc, codes, drop, Some, None}
use Rattle.std.specs.Prelude.{OnOk}
use Rattle.moo_unparse.specs.Lines.{handler_lines}
use Rattle.moo_unparse.specs.Listings.{elseif_head, except_head, deeper, lines, arm_lines, handlers_lines}
use Rattle.moo_unparse.proofs.LineSteps.{written, elseif_at, else_at, handlers_at}
use Rattle.moo_syntax_ast.specs.View.{root, codes_of, block, arms_of, handlers_of}
use Rattle.moo_syntax_ast.proofs.Rows.{row_block, row_arms, row_handlers}
use Rattle.moo_unparse.proofs.block.+lines.Goals as goal

pub write_below-returns-in-ForList : goal.write_below-returns-in-ForList
write_below-returns-in-ForList t c = rw (c.in-ForList.is, row_block, ← c.deref-in-ForList.ensures.value) c.write_body.ensures

pub write_below-returns-in-ForRange : goal.write_below-returns-in-ForRange
write_below-returns-in-ForRange t c = rw (c.in-ForRange.is, row_block, ← c.deref-in-ForRange.ensures.value) c.write_body-in-ForRange.ensures

pub write_below-returns-in-While : goal.write_below-returns-in-While
write_below-returns-in-While t c = rw (c.in-While.is, row_block, ← c.deref-in-While.ensures.value) c.write_body-in-While.ensures

pub write_below-returns-in_ok-write_within-in-If : goal.write_below-returns-in_ok-write_within-in-If
write_below-returns-in_ok-write_within-in-If t c =
    let f = c.args.form in
    let m = c.args.margin.now in
    rw (c.in-If.is, row_block, row_arms, ← append_assoc c.args.lines.now.items (lines f (deeper f m) (block c.in-If.body.items)) (arm_lines f m (arms_of c.in-If.arms.items))) (rw (c.in_ok-write_within-in-If.ensures, c.deref.ensures.value, c.deref-in-If.ensures.value) at c.write_arms.ensures)

pub write_below-returns-in_ok-write_within-in-TryExcept : goal.write_below-returns-in_ok-write_within-in-TryExcept
write_below-returns-in_ok-write_within-in-TryExcept t c =
    let f = c.args.form in
    let m = c.args.margin.now in
    rw (c.in-TryExcept.is, row_block, row_handlers, ← append_assoc c.args.lines.now.items (lines f (deeper f m) (block c.in-TryExcept.body.items)) (handlers_lines f m (handlers_of c.in-TryExcept.handlers.items))) (rw (c.in_ok-write_within-in-TryExcept.ensures, c.deref-in-TryExcept.ensures.value, c.deref-in-TryExcept-2.ensures.value) at c.write_handlers.ensures)

pub write_below-returns-in_ok-write_body-in-TryFinally : goal.write_below-returns-in_ok-write_body-in-TryFinally
write_below-returns-in_ok-write_body-in-TryFinally t c = rw (c.in-TryFinally.is, row_block c.in-TryFinally.body, row_block c.in-TryFinally.cleanup) (simp append_assoc (simp append_assoc at (rw (c.in_ok-write_body-in-TryFinally.ensures, c.deref-in-TryFinally.ensures.value, c.deref-in-TryFinally-2.ensures.value) at c.write_body-in-TryFinally-2.ensures)))

pub write_arms-loop-arm-preserved : goal.write_arms-loop-arm-preserved
write_arms-loop-arm-preserved t c =
    let f = c.args.form in
    let m = c.args.margin.now in
    let i = c.loop-arm.arm-index in
    let at = elseif_at c.args.arms.now i c.arm-item.result c.loop-arm-test.true c.arm-item.is f m c.in-ElseIf.condition c.in-ElseIf.body c.in-ElseIf.is in
    let pushed = c.in_ok-push-in-ElseIf.ensures.items ∙ ap (λ v. c.loop-arm.lines.items ++ v ∷ []) (rw c.deref.ensures at c.in_ok-elseif_line-in-ElseIf.ensures) in
    written c.loop-arm.lines.items (m ++ elseif_head f.parentheses (root c.in-ElseIf.condition)) (lines f (deeper f m) (block c.in-ElseIf.body.items)) (arm_lines f m (arms_of (drop (i + 1) c.args.arms.now))) _ _ pushed (rw c.deref-in-ElseIf.ensures.value at c.in_ok-write_within-in-ElseIf.ensures) ∙ ap (λ v. c.loop-arm.lines.items ++ v) (sym at) ∙ c.loop-arm.invariant

pub write_arms-returns-in-Else : goal.write_arms-returns-in-Else
write_arms-returns-in-Else t c =
    let f = c.args.form in
    let m = c.args.margin.now in
    let at = else_at c.args.arms.now c.loop-arm.arm-index c.arm-item.result c.loop-arm-test.true c.arm-item.is f m c.in-Else.body c.in-Else.is in
    let pushed = c.in_ok-push-in-Else.ensures.items ∙ ap (λ v. c.loop-arm.lines.items ++ v ∷ []) c.in_ok-keyword_line-in-Else.ensures in
    let body = lines f (deeper f m) (block c.in-Else.body.items) ++ (m ++ codes "endif") ∷ [] in
    subst (λ v. OnOk c.write_body.result (c.write_body.new.lines.items ≡ v)) (ap (λ v. v ++ body) pushed ∙ append_assoc c.loop-arm.lines.items ((m ++ codes "else") ∷ []) body ∙ ap (λ v. c.loop-arm.lines.items ++ v) (sym at) ∙ c.loop-arm.invariant) (rw c.deref-in-Else.ensures.value at c.write_body.ensures)

pub write_handlers-loop-handler-preserved : goal.write_handlers-loop-handler-preserved
write_handlers-loop-handler-preserved t c =
    let f = c.args.form in
    let m = c.args.margin.now in
    let i = c.loop-handler.handler-index in
    let rest = handlers_lines f m (handlers_of (drop (i + 1) c.args.handlers.now)) in
    let at = handlers_at f m c.args.handlers.now i c.handler-item.result c.loop-handler-test.true c.handler-item.is in
    ap (λ v. v ++ rest) c.in_ok-write_handler.ensures ∙ append_assoc c.loop-handler.lines.items (handler_lines f m c.handler-item.result) rest ∙ ap (λ v. c.loop-handler.lines.items ++ v) (sym at) ∙ c.loop-handler.invariant

pub write_handler-returns-in_ok-push-in-Except : goal.write_handler-returns-in_ok-push-in-Except
write_handler-returns-in_ok-push-in-Except t c =
    let f = c.args.form in
    let m = c.args.margin.now in
    let before = c.args.lines.now.items in
    let body = lines f (deeper f m) (block c.in-Except.body.items) in
    let pushed = c.in_ok-push-in-Except.ensures.items ∙ ap (λ v. before ++ v ∷ []) c.in_ok-except_line-in-Except.ensures in
    rw (c.in-Except.is, row_block) (subst (λ v. OnOk c.write_within.result (c.write_within.new.lines.items ≡ v)) (ap (λ v. v ++ body) pushed ∙ append_assoc before ((m ++ except_head f.parentheses None (codes_of c.in-Except.errors)) ∷ []) body) (rw c.deref.ensures.value at c.write_within.ensures))

pub write_handler-returns-in_ok-push-in-ExceptAs : goal.write_handler-returns-in_ok-push-in-ExceptAs
write_handler-returns-in_ok-push-in-ExceptAs t c =
    let f = c.args.form in
    let m = c.args.margin.now in
    let before = c.args.lines.now.items in
    let body = lines f (deeper f m) (block c.in-ExceptAs.body.items) in
    let pushed = c.in_ok-push-in-ExceptAs.ensures.items ∙ ap (λ v. before ++ v ∷ []) c.in_ok-except_as_line-in-ExceptAs.ensures in
    rw (c.in-ExceptAs.is, row_block) (subst (λ v. OnOk c.write_within-in-ExceptAs.result (c.write_within-in-ExceptAs.new.lines.items ≡ v)) (ap (λ v. v ++ body) pushed ∙ append_assoc before ((m ++ except_head f.parentheses (Some c.in-ExceptAs.name) (codes_of c.in-ExceptAs.errors)) ∷ []) body) (rw c.deref-in-ExceptAs.ensures.value at c.write_within-in-ExceptAs.ensures))

use Rattle.std.proofs.Common.{◌≡◌, sym, ◌∙◌, true, false}
use Rattle.moo_syntax_ast.specs.View.{root, block}
use Rattle.moo_syntax_listing.specs.Length.{fits, block_fits}
use Rattle.moo_syntax_ast.proofs.Rows.{row_block, row_arms, row_handlers}
use Rattle.moo_syntax_listing.proofs.LineLengths.{when_true, when_false, all_pass, first_fails, second_fails, at_elseif, at_else}
use Rattle.moo_syntax_ast.specs.Listing.{elseif_head}
use Rattle.moo_syntax_listing.proofs.lines.+lines.Goals as goal

pub below_fits-returns-then-block_fits : goal.below_fits-returns-then-block_fits
below_fits-returns-then-block_fits t c = rw (c.in-If.is, row_block, row_arms) (when_true c.block_fits.result _ _ _ c.if-block_fits.true (rw c.deref.ensures.value at c.block_fits.ensures) (rw c.deref-then-block_fits.ensures.value at c.arms_fit.ensures))

pub below_fits-returns-else-block_fits : goal.below_fits-returns-else-block_fits
below_fits-returns-else-block_fits t c = rw (c.in-If.is, row_block, row_arms) (when_false c.block_fits.result _ _ c.if-block_fits.false (rw c.deref.ensures.value at c.block_fits.ensures))

pub below_fits-returns-then-block_fits-2 : goal.below_fits-returns-then-block_fits-2
below_fits-returns-then-block_fits-2 t c = rw (c.in-TryExcept.is, row_block, row_handlers) (when_true c.block_fits-in-TryExcept.result _ _ _ c.if-block_fits-2.true (rw c.deref-in-TryExcept.ensures.value at c.block_fits-in-TryExcept.ensures) (rw c.deref-then-block_fits-2.ensures.value at c.handlers_fit.ensures))

pub below_fits-returns-else-block_fits-2 : goal.below_fits-returns-else-block_fits-2
below_fits-returns-else-block_fits-2 t c = rw (c.in-TryExcept.is, row_block, row_handlers) (when_false _ _ _ c.if-block_fits-2.false (rw c.deref-in-TryExcept.ensures.value at c.block_fits-in-TryExcept.ensures))

pub below_fits-returns-then-block_fits-3 : goal.below_fits-returns-then-block_fits-3
below_fits-returns-then-block_fits-3 t c = rw (c.in-TryFinally.is, row_block c.in-TryFinally.body, row_block c.in-TryFinally.cleanup) (when_true c.block_fits-in-TryFinally.result _ _ _ c.if-block_fits-3.true (rw c.deref-in-TryFinally.ensures.value at c.block_fits-in-TryFinally.ensures) (rw c.deref-then-block_fits-3.ensures.value at c.block_fits-then-block_fits-3.ensures))

pub below_fits-returns-else-block_fits-3 : goal.below_fits-returns-else-block_fits-3
below_fits-returns-else-block_fits-3 t c = rw (c.in-TryFinally.is, row_block c.in-TryFinally.body, row_block c.in-TryFinally.cleanup) (when_false _ _ _ c.if-block_fits-3.false (rw c.deref-in-TryFinally.ensures.value at c.block_fits-in-TryFinally.ensures))

pub below_fits-returns-in-ForList : goal.below_fits-returns-in-ForList
below_fits-returns-in-ForList t c = rw (c.in-ForList.is, row_block, ← c.deref-in-ForList.ensures.value) c.block_fits-in-ForList.ensures

pub below_fits-returns-in-ForRange : goal.below_fits-returns-in-ForRange
below_fits-returns-in-ForRange t c = rw (c.in-ForRange.is, row_block, ← c.deref-in-ForRange.ensures.value) c.block_fits-in-ForRange.ensures

pub below_fits-returns-in-While : goal.below_fits-returns-in-While
below_fits-returns-in-While t c = rw (c.in-While.is, row_block, ← c.deref-in-While.ensures.value) c.block_fits-in-While.ensures

pub handler_fits-returns-then-except_fits : goal.handler_fits-returns-then-except_fits
handler_fits-returns-then-except_fits t c = rw (c.in-Except.is, row_block) (when_true c.except_fits.result _ _ _ c.if-except_fits.true c.except_fits.ensures (rw c.deref.ensures.value at c.block_fits.ensures))

pub handler_fits-returns-then-except_as_fits : goal.handler_fits-returns-then-except_as_fits
handler_fits-returns-then-except_as_fits t c = rw (c.in-ExceptAs.is, row_block) (when_true c.except_as_fits.result _ _ _ c.if-except_as_fits.true c.except_as_fits.ensures (rw c.deref-then-except_as_fits.ensures.value at c.block_fits-then-except_as_fits.ensures))

pub arms_fit-loop-arm-preserved : goal.arms_fit-loop-arm-preserved
arms_fit-loop-arm-preserved t c =
    let at = at_elseif c.args.arms.now c.loop-arm.arm-index c.arm-item.result c.loop-arm-test.true c.arm-item.is c.in-ElseIf.condition c.in-ElseIf.body c.in-ElseIf.is in
    let head : fits (elseif_head (root c.in-ElseIf.condition)) ≡ true = sym (rw c.deref.ensures at c.elseif_fits.ensures) ∙ c.if-not-elseif_fits.false in
    let body : block_fits (block c.in-ElseIf.body.items) ≡ true = sym (rw c.deref-in-ElseIf.ensures.value at c.block_fits.ensures) ∙ c.if-not-block_fits.false in
    sym (at ∙ all_pass _ _ _ head body) ∙ c.loop-arm.invariant

pub arms_fit-returns-then-not-elseif_fits : goal.arms_fit-returns-then-not-elseif_fits
arms_fit-returns-then-not-elseif_fits t c =
    let at = at_elseif c.args.arms.now c.loop-arm.arm-index c.arm-item.result c.loop-arm-test.true c.arm-item.is c.in-ElseIf.condition c.in-ElseIf.body c.in-ElseIf.is in
    let head : fits (elseif_head (root c.in-ElseIf.condition)) ≡ false = sym (rw c.deref.ensures at c.elseif_fits.ensures) ∙ c.if-not-elseif_fits.true in
    sym (at ∙ first_fails _ _ _ head) ∙ c.loop-arm.invariant

pub arms_fit-returns-then-not-block_fits : goal.arms_fit-returns-then-not-block_fits
arms_fit-returns-then-not-block_fits t c =
    let at = at_elseif c.args.arms.now c.loop-arm.arm-index c.arm-item.result c.loop-arm-test.true c.arm-item.is c.in-ElseIf.condition c.in-ElseIf.body c.in-ElseIf.is in
    let body : block_fits (block c.in-ElseIf.body.items) ≡ false = sym (rw c.deref-in-ElseIf.ensures.value at c.block_fits.ensures) ∙ c.if-not-block_fits.true in
    sym (at ∙ second_fails _ _ _ body) ∙ c.loop-arm.invariant

pub arms_fit-returns-in-Else : goal.arms_fit-returns-in-Else
arms_fit-returns-in-Else t c =
    let at = at_else c.args.arms.now c.loop-arm.arm-index c.arm-item.result c.loop-arm-test.true c.arm-item.is c.in-Else.body c.in-Else.is in
    (rw c.deref-in-Else.ensures.value at c.block_fits-in-Else.ensures) ∙ sym at ∙ c.loop-arm.invariant

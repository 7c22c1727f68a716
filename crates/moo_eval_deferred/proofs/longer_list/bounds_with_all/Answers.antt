use Rattle.std.proofs.Common.{◌+◌, ◌<◌, max, length, ap, ◌∙◌, arith}
use Rattle.std.proofs.lemmas.List.{take_all}
use Rattle.moo_eval_deferred.proofs.LongerLists.{too_heavy_by, too_deep_by, measured_by, fits_by, next_weight, next_depth}
use Rattle.moo_eval_deferred.proofs.longer_list.bounds_with_all.Goals as goal

pub returns-then-weight-gt-WEIGHT_LIMIT-clause-none : goal.returns-then-weight-gt-WEIGHT_LIMIT-clause-none
returns-then-weight-gt-WEIGHT_LIMIT-clause-none c =
    let low : c.loop-value.value-index < length c.args.more.now = omega (arith, c.loop-value-test.true) in
    too_heavy_by c.args.list.now c.args.more.now (c.loop-value.value-index + 1) (c.loop-value.weight + c.weight-weight-in-loop-value.result)
    (ap (λ w. c.loop-value.weight + w) c.weight-weight-in-loop-value.ensures.weight ∙ next_weight c.args.list.now c.args.more.now c.loop-value.value-index c.value-item.result c.loop-value.weight low c.value-item.is c.loop-value.invariant.0)
    c.if-weight-gt-WEIGHT_LIMIT.true

pub loop-value-preserved : goal.loop-value-preserved
loop-value-preserved c =
    let low : c.loop-value.value-index < length c.args.more.now = omega (arith, c.loop-value-test.true) in (
      ap (λ w. c.loop-value.weight + w) c.weight-weight-in-loop-value.ensures.weight ∙ next_weight c.args.list.now c.args.more.now c.loop-value.value-index c.value-item.result c.loop-value.weight low c.value-item.is c.loop-value.invariant.0,
      c.max-depth.ensures ∙ ap (λ d. max c.loop-value.depth (d + 1)) c.depth.ensures.depth ∙ next_depth c.args.list.now c.args.more.now c.loop-value.value-index c.value-item.result c.loop-value.depth low c.value-item.is c.loop-value.invariant.1,
      c.if-weight-gt-WEIGHT_LIMIT.false,
    )

pub returns-then-depth-gt-DEPTH_LIMIT-clause-none : goal.returns-then-depth-gt-DEPTH_LIMIT-clause-none
returns-then-depth-gt-DEPTH_LIMIT-clause-none c =
    too_deep_by c.args.list.now c.args.more.now c.loop-value.value-index c.loop-value.weight c.loop-value.depth (take_all c.loop-value.value-index c.args.more.now (omega (arith, c.loop-value-test.false))) c.loop-value.invariant.0 c.loop-value.invariant.1 c.if-depth-gt-DEPTH_LIMIT.true

pub returns-clause-bounds : goal.returns-clause-bounds
returns-clause-bounds c =
    measured_by c.args.list.now c.args.more.now c.loop-value.value-index c.loop-value.weight c.loop-value.depth (take_all c.loop-value.value-index c.args.more.now (omega (arith, c.loop-value-test.false))) c.loop-value.invariant.0 c.loop-value.invariant.1

pub returns-clause-limits : goal.returns-clause-limits
returns-clause-limits c =
    fits_by c.args.list.now c.args.more.now c.loop-value.value-index c.loop-value.weight c.loop-value.depth (take_all c.loop-value.value-index c.args.more.now (omega (arith, c.loop-value-test.false))) c.loop-value.invariant.0 c.loop-value.invariant.1 c.loop-value.invariant.2 c.if-depth-gt-DEPTH_LIMIT.false

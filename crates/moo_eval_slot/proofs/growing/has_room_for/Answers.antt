use Rattle.std.proofs.Common.{◌+◌, arith}
use Rattle.moo_value.specs.View.{tree}
use Rattle.moo_eval_slot.proofs.Room.{fits_push, fits_first, too_heavy_push, too_heavy_first}
use Rattle.moo_eval_slot.proofs.growing.has_room_for.Goals as goal

pub returns-then-weight-gt-WEIGHT_LIMIT-clause-last : goal.returns-then-weight-gt-WEIGHT_LIMIT-clause-last
returns-then-weight-gt-WEIGHT_LIMIT-clause-last c =
    too_heavy_push c.args.list.now (tree c.args.value.now) (c.weight.result + c.weight-2.result) (omega (arith, c.weight.ensures.weight, c.weight-2.ensures.weight)) c.if-weight-gt-WEIGHT_LIMIT.true

pub returns-then-weight-gt-WEIGHT_LIMIT-clause-first : goal.returns-then-weight-gt-WEIGHT_LIMIT-clause-first
returns-then-weight-gt-WEIGHT_LIMIT-clause-first c =
    too_heavy_first c.args.list.now (tree c.args.value.now) (c.weight.result + c.weight-2.result) (omega (arith, c.weight.ensures.weight, c.weight-2.ensures.weight)) c.if-weight-gt-WEIGHT_LIMIT.true

pub returns-clause-last : goal.returns-clause-last
returns-clause-last c =
    fits_push c.args.list.now (tree c.args.value.now) (c.weight.result + c.weight-2.result) c.max-depth.result (omega (arith, c.weight.ensures.weight, c.weight-2.ensures.weight)) (omega (arith, c.max-depth.ensures, c.depth.ensures.depth, c.depth-2.ensures.depth)) c.if-weight-gt-WEIGHT_LIMIT.false

pub returns-clause-first : goal.returns-clause-first
returns-clause-first c =
    fits_first c.args.list.now (tree c.args.value.now) (c.weight.result + c.weight-2.result) c.max-depth.result (omega (arith, c.weight.ensures.weight, c.weight-2.ensures.weight)) (omega (arith, c.max-depth.ensures, c.depth.ensures.depth, c.depth-2.ensures.depth)) c.if-weight-gt-WEIGHT_LIMIT.false

use Rattle.std.proofs.Common.{arith, ◌+◌, ◌-◌}
use Rattle.moo_eval_frame.proofs.Rows.{heavier, too_heavy}
use Rattle.moo_eval_frame.proofs.gathered.are_too_heavy.Goals as goal

pub returns-then-weight-gt-WEIGHT_LIMIT : goal.returns-then-weight-gt-WEIGHT_LIMIT
returns-then-weight-gt-WEIGHT_LIMIT c = λ yes. too_heavy c.args.stretches.now (c.loop-stretch.stretch-index + 1) (c.loop-stretch.weight + (c.weight.result - 1)) (omega arith) (heavier c.args.stretches.now c.loop-stretch.stretch-index c.stretch-item.result c.loop-stretch.weight c.weight.result c.loop-stretch-test.true c.stretch-item.is c.loop-stretch.invariant.weight c.weight.ensures.weight)

pub loop-stretch-preserved : goal.loop-stretch-preserved
loop-stretch-preserved c = record {
  fits = omega arith;
  weight = heavier c.args.stretches.now c.loop-stretch.stretch-index c.stretch-item.result c.loop-stretch.weight c.weight.result c.loop-stretch-test.true c.stretch-item.is c.loop-stretch.invariant.weight c.weight.ensures.weight;
}

use Rattle.std.proofs.Common.{◌∙◌}
use Rattle.moo_value.proofs.Numbers.{number_more}
use Rattle.moo_value.proofs.digits.wrapping_number.Goals as goal

pub loop-digit-preserved : goal.loop-digit-preserved
loop-digit-preserved c = number_more _ _ _ _ c.loop-digit-test.true c.loop-digit.invariant (c.from-digit.ensures ∙ c.saturating_sub.ensures)

use Rattle.std.proofs.Common.{arith}
use Rattle.moo_value.proofs.Descent.{within_deepest}
use Rattle.moo_dbtext_read.proofs.Lengths.{values_length}
use Rattle.moo_dbtext_read.proofs.object_line.+values.Goals as goal

pub lines_of_values-lines_of_value-requires : goal.lines_of_values-lines_of_value-requires
lines_of_values-lines_of_value-requires t c = (omega (arith, within_deepest c.args.values.now c.loop-value.value-index c.value-item.result c.loop-value-test.true c.value-item.is), tt)

pub lines_of_values-loop-value-preserved : goal.lines_of_values-loop-value-preserved
lines_of_values-loop-value-preserved t c =
    let grown = values_length c.args.values.now c.loop-value.value-index c.value-item.result c.loop-value-test.true c.value-item.is in
    omega (arith, c.in_ok-lines.ensures, c.in_ok-lines_of_value.ensures, c.loop-value.invariant)

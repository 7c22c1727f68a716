-- Each operator takes a tick before its operands are looked at.
use Rattle.std.proofs.Common.{◌+◌, ◌*◌}
use Rattle.moo_eval_integer.proofs.integer.+operand.Given as goal

abbrev pub decreases-operand_integer : goal.decreases-operand_integer
decreases-operand_integer l = 2 * l.left.now + 1

abbrev pub decreases-binary_integer : goal.decreases-binary_integer
decreases-binary_integer l = 2 * l.left.now

-- Each operator takes a tick before its operands are looked at.
use Rattle.std.proofs.Common.{◌+◌, ◌*◌}
use Rattle.moo_eval_integer.proofs.integer.+integer.Given as goal

abbrev pub decreases-integer_of : goal.decreases-integer_of
decreases-integer_of l = 5 * l.left.now + 4

abbrev pub decreases-part_integer : goal.decreases-part_integer
decreases-part_integer l = 5 * l.left.now + 3

abbrev pub decreases-element_integer : goal.decreases-element_integer
decreases-element_integer l = 5 * l.left.now + 2

abbrev pub decreases-arithmetic_integer : goal.decreases-arithmetic_integer
decreases-arithmetic_integer l = 5 * l.left.now + 1

abbrev pub decreases-nested_integer : goal.decreases-nested_integer
decreases-nested_integer l = 5 * l.left.now

abbrev pub decreases-held_list : goal.decreases-held_list
decreases-held_list l = 5 * l.left.now + 3

abbrev pub decreases-held_part : goal.decreases-held_part
decreases-held_part l = 5 * l.left.now + 2

abbrev pub decreases-held_element : goal.decreases-held_element
decreases-held_element l = 5 * l.left.now + 1

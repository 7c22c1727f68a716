use Rattle.std.proofs.Common.{◌≡◌, ◌+◌, ◌*◌, length, take}
use Rattle.moo_value.specs.Size.{depth}
use Rattle.moo_value.specs.Tree.{elements_of}
use Rattle.moo_value.specs.View.{tree, trees}
use Rattle.moo_value.proofs.Descent.{deepest}
use Rattle.moo_dbtext_object.specs.ValueLines.{elements_lines}
use Rattle.moo_dbtext_read.proofs.object_line.+values.Given as goal

abbrev pub invariant-lines_of_values-loop-value : goal.invariant-lines_of_values-loop-value
invariant-lines_of_values-loop-value l = l.lines ≡ length (elements_lines (elements_of (trees (take l.value-index l.values))))

abbrev pub decreases-lines_of_value : goal.decreases-lines_of_value
decreases-lines_of_value l = 2 * depth (tree l.value.now)

abbrev pub decreases-lines_of_values : goal.decreases-lines_of_values
decreases-lines_of_values l = 2 * deepest l.values.now + 1

use Rattle.std.proofs.Common.{◌≡◌, ◌+◌, ◌*◌, ◌++◌, take}
use Rattle.moo_value.specs.Size.{depth}
use Rattle.moo_value.specs.Tree.{elements_of}
use Rattle.moo_value.specs.View.{tree, trees}
use Rattle.moo_value.proofs.Descent.{deepest}
use Rattle.moo_dbtext_object.specs.Lines.{unlines}
use Rattle.moo_dbtext_object.specs.ValueLines.{elements_lines}
use Rattle.moo_dbtext_object.proofs.value_writing.+values.Given as goal

abbrev pub invariant-put_values-loop-value : goal.invariant-put_values-loop-value
invariant-put_values-loop-value l =
    l.out.items ≡ l.initial.out.items ++ unlines (elements_lines (elements_of (trees (take l.value-index l.values))))

abbrev pub decreases-put_value : goal.decreases-put_value
decreases-put_value l = 2 * depth (tree l.value.now)

abbrev pub decreases-put_values : goal.decreases-put_values
decreases-put_values l = 2 * deepest l.values.now + 1

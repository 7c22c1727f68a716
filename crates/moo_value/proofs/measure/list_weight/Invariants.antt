use Rattle.std.proofs.Common.{◌≡◌, take}
use Rattle.moo_value.specs.Size.{list_weight}
use Rattle.moo_value.specs.View.{trees}
use Rattle.moo_value.proofs.measure.list_weight.Given as goal

abbrev pub invariant-loop-element : goal.invariant-loop-element
invariant-loop-element l = l.total ≡ list_weight (trees (take l.element-index l.elements))

-- Values that may replace each other, for private clauses only.
use Rattle.std.specs.Prelude.{◌≡◌}
use Rattle.moo_value.specs.Size.{weight, depth}
use Rattle.moo_value.specs.Tree.{IsValue}
use Rattle.moo_value.specs.View.{tree}
use Rattle.moo_value.specs.declared.value.Value.{Value}

-- the new value has the weight and the depth of the old one
pub record IsAlike (old new : Value) : Type 0 where
  pub weighs : weight (tree new) ≡ weight (tree old)
  pub nests : depth (tree new) ≡ depth (tree old)
  pub value : IsValue (tree old) → IsValue (tree new)

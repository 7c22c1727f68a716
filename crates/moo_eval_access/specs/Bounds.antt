-- Bounds of values, for private clauses alone.
use Rattle.std.specs.Prelude.{ℕ, ◌≤◌}
use Rattle.moo_value.specs.Tree.{Tree}
use Rattle.moo_value.specs.Size.{weight, depth}

-- neither heavier nor deeper than this
pub record IsWithin (heaviest deepest : ℕ) (t : Tree) : Type 0 where
  pub weighs : weight t ≤ heaviest
  pub nests : depth t ≤ deepest

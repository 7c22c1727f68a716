-- The next number among the children of one parent.
use Rattle.std.specs.Prelude.{◌≡◌, ℕ, ◌==◌, List, [], ◌∷◌, Option, None, length, slice_index_or, if◌then◌else◌}
use Rattle.moo_world_tree.specs.Forest.{Links, above_of}
use Rattle.moo_dbtext_restore.specs.Recorded.{first_in, next_below}

-- the number after y in a list, and what is given if the list doesn't have y
abbrev pub next_or : List ℕ → Option ℕ → ℕ → Option ℕ
next_or [] given y = given
next_or (z ∷ zs) given y = if z == y then first_in zs else next_or zs given y

-- for each number of a tree the next one
pub record AreNexts (tree : List Links) (next : List (Option ℕ)) : Type 0 where
  pub many : length next ≡ length tree
  pub each : (y : ℕ) → slice_index_or next y None ≡ next_below tree (above_of tree y) y

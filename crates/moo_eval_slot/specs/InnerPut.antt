-- An integer that is put into a list in a list.
use Rattle.std.specs.Prelude.{◌≡◌, ◌<◌, ℕ, ℤ, List, length, set, slice_get, Some}
use Rattle.moo_value.specs.Tree.{Tree, integer, list_of}
use Rattle.moo_value.specs.Size.{IsWithinLimits}

-- the element at `outer` is a list, and takes the number at `inner`; both lists are then within the limits
pub record IsInnerPut (ts : List Tree) (outer inner : ℕ) (number : ℤ) (new : List Tree) : Type 0 where
  pub own : List Tree
  pub outer_within : outer < length ts
  pub there : slice_get ts outer ≡ Some (list_of own)
  pub inner_within : inner < length own
  pub own_limits : IsWithinLimits (list_of (set own inner (integer number)))
  pub limits : IsWithinLimits (list_of new)
  pub made : new ≡ set ts outer (list_of (set own inner (integer number)))

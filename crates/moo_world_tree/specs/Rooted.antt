-- Nodes from which the path up ends.
use Rattle.std.specs.Prelude.{ℕ, ◌<◌, ◌≤◌, ◌≢◌, List, length, slice_index}
use Rattle.moo_world_tree.specs.Forest.{Links, IsWayUp}

-- the path up from x ends, at a node that has none above it or at a number that is no node's
abbrev pub IsRooted : List Links → ℕ → Type 0
IsRooted nodes x = (ys : List ℕ) × IsWayUp nodes x ys

-- the least node from which the path up does not end
pub record IsLeastEndless (nodes : List Links) (x : ℕ) : Type 0 where
  pub node : x < length nodes
  pub endless : ¬ (IsRooted nodes x)
  pub below : (y : ℕ) → y < x → IsRooted nodes y

-- each marked node is rooted, and no mark is past the limit
abbrev pub MarksEnd : List Links → List ℕ → ℕ → Type 0
MarksEnd nodes marks limit = (i : ℕ) → i < length marks → slice_index marks i ≢ 0 → (slice_index marks i ≤ limit) × IsRooted nodes i

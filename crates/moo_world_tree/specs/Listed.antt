-- Nodes whose lists are exact.
use Rattle.std.specs.Prelude.{◌≡◌, ℕ, ◌<◌, ◌≤◌, List, [], Some, Bool, false, true, length, count_by, nat_eq, nat_lt, ◌==◌, slice_index_or, if◌then◌else◌}
use Rattle.moo_world_tree.specs.Forest.{Links, above_of, below_of, times_below}

-- the list of x holds each node that has x right above it, once, and no other
abbrev pub IsListed : List Links → ℕ → Type 0
IsListed nodes x = (y : ℕ) → count_by (nat_eq y) (below_of nodes x) ≡ times_below (above_of nodes y) x

-- the least node whose list is wrong
pub record IsLeastUnlisted (nodes : List Links) (x : ℕ) : Type 0 where
  pub node : x < length nodes
  pub wrong : ¬ (IsListed nodes x)
  pub below : (y : ℕ) → y < x → IsListed nodes y

-- the contents of the lists, after those before k are read and this part of that of k
abbrev pub held : List Links → ℕ → List ℕ → ℕ → List ℕ
held nodes k ys x = if nat_lt x k then below_of nodes x else if x == k then ys else []

-- these lists hold only children of their nodes, each once, and exactly these have a mark
pub record AreMarked (nodes : List Links) (listed : List Bool) (lists : ℕ → List ℕ) : Type 0 where
  pub right : (x y : ℕ) → count_by (nat_eq y) (lists x) ≤ times_below (above_of nodes y) x
  pub found : (y : ℕ) → slice_index_or listed y false ≡ true → (x : ℕ) × (0 < count_by (nat_eq y) (lists x))
  pub marks : (x y : ℕ) → 0 < count_by (nat_eq y) (lists x) → slice_index_or listed y false ≡ true

-- the lists before that of k are read, and that of k is wrong, if k is a node
pub record AreRead (nodes : List Links) (listed : List Bool) (k : ℕ) : Type 0 where
  pub len : length listed ≡ length nodes
  pub most : k ≤ length nodes
  pub marked : (ys : List ℕ) × AreMarked nodes listed (held nodes k ys)
  pub wrong : k < length nodes → ¬ (IsListed nodes k)

-- m is the limit or has an unmarked node below it, and no less number has one
pub record IsLeast (nodes : List Links) (listed : List Bool) (limit m n : ℕ) : Type 0 where
  pub most : m ≤ limit
  pub reason : m < limit → (y : ℕ) × (y < n) × (slice_index_or listed y false ≡ false) × (above_of nodes y ≡ Some m)
  pub least : (y up : ℕ) → y < n → slice_index_or listed y false ≡ false → above_of nodes y ≡ Some up → m ≤ up

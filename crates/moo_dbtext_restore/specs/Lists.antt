-- The nodes of a tree, made from links.
use Rattle.std.specs.Prelude.{◌≡◌, ℕ, ◌<◌, ◌⊎◌, List, Option, Some, Bool, true, false, length, slice_index_or, count_by, nat_eq}
use Rattle.moo_world_tree.specs.Forest.{Links, above_of, below_of, times_below}
use Rattle.moo_dbtext_restore.specs.declared.link.Link.{Link}
use Rattle.moo_dbtext_restore.specs.Links.{above_in, link_of, IsChain, HasList}

-- some number occurs too often in a list of those right below x
abbrev pub HasExtra : List (Option Link) → ℕ → List ℕ → Type 0
HasExtra links x ys = (y : ℕ) × (times_below (above_in links y) x < count_by (nat_eq y) ys)

-- the list from the first of x on, or, if that isn't exactly the objects right below x, some list that isn't either
abbrev pub IsFollowed : List (Option Link) → ℕ → List ℕ → Type 0
IsFollowed links x ys = IsChain links (link_of links x).first ys ⊎ ((¬ (HasList links x)) × HasExtra links x ys)

-- a marked number is right below an object before x
abbrev pub AreTakenBefore : List (Option Link) → List Bool → ℕ → Type 0
AreTakenBefore links taken x = (y : ℕ) → slice_index_or taken y false ≡ true → (up : ℕ) × (above_in links y ≡ Some up) × (up < x)

-- a node for each number, joined as the links describe
pub record AreNodesOf (links : List (Option Link)) (nodes : List Links) : Type 0 where
  pub many : length nodes ≡ length links
  pub above : (x : ℕ) → above_of nodes x ≡ above_in links x
  pub below : (x : ℕ) → IsFollowed links x (below_of nodes x)

-- The faults for which records describe no world.
use Rattle.std.specs.Prelude.{◌≡◌, ℕ, List, ◌∷◌, Option, Some, None, false, length}
use Rattle.std.specs.List.{list_any}
use Rattle.moo_world_object.specs.Names.{same_name}
use Rattle.moo_world_table.specs.World.{has_twice}
use Rattle.moo_dbtext_object.specs.Objects as recorded
use Rattle.moo_dbtext_restore.specs.First.{IsFirst}
use Rattle.moo_dbtext_restore.specs.Links.{IsLineage, IsSound}
use Rattle.moo_dbtext_restore.specs.Records.{Records, record_at, parent_links, parent_links_of, place_links_of, cells_in, names_at, names_along}

-- an object defines no name twice, and none that an ancestor defines
pub record HasOwnNames (r : Records) (x : ℕ) : Type 0 where
  pub once : has_twice (names_at r x) ≡ false
  pub apart : (ys : List ℕ) → IsLineage (parent_links r) x ys → list_any (λ n. list_any (same_name n) (names_along r ys)) (names_at r x) ≡ false

-- an object's place is sound in the trees of parents and of locations
pub record IsJoinedWell (objects : List (Option recorded.Object)) (x : ℕ) : Type 0 where
  pub parent : IsSound (parent_links_of objects) x
  pub place : IsSound (place_links_of objects) x

-- an object's place in both trees is sound, and its names are its own
pub record IsWellPlaced (r : Records) (x : ℕ) : Type 0 where
  pub trees : IsJoinedWell r.objects x
  pub names : HasOwnNames r x

-- an object has as many cells as there are definitions on it and its ancestors
pub record HasItsCells (r : Records) (x : ℕ) : Type 0 where
  pub lineage : List ℕ
  pub is : IsLineage (parent_links r) x lineage
  pub count : length (cells_in (record_at r x)) ≡ length (names_along r (x ∷ lineage))

-- the first object that isn't well placed
abbrev pub IsHierarchyFault : Records → ℕ → Type 0
IsHierarchyFault r x = IsFirst (IsWellPlaced r) (length r.objects) (Some x)

-- all objects are well placed, and this is the first that hasn't its cells
abbrev pub IsCountFault : Records → ℕ → Type 0
IsCountFault r x = IsFirst (IsWellPlaced r) (length r.objects) None × IsFirst (HasItsCells r) (length r.objects) (Some x)

-- The names of properties along a way up, during the walk.
use Rattle.std.specs.Prelude.{◌≡◌, ℕ, List, [], ◌∷◌, ◌++◌, Option, Bool, false, not, ◌||◌, is_some, map, reverse, option_map}
use Rattle.std.specs.List.{list_any}
use Rattle.std.specs.BTreeMap as tree
use Rattle.std.specs.BTreeMap.{BTreeMap}
use Rattle.std.specs.Ordering.{nat_cmp}
use Rattle.std.specs.Cmp.Lexicographic.{slice_cmp}
use Rattle.std.specs.Global.{Vec}
use denote.Ref.{Bor}
use Rattle.moo_world_object.specs.Names.{same_name}
use Rattle.moo_dbtext_object.specs.Objects as recorded
use Rattle.moo_dbtext_object.specs.declared.object_record.ObjectRecord.{ObjectRecord}
use Rattle.moo_dbtext_restore.specs.Links.{IsLineage}
use Rattle.moo_dbtext_restore.specs.Records.{Records, parent_links}

-- records that have objects only
abbrev pub with_objects : List (Option ObjectRecord) → Records
with_objects os = record { objects = map (option_map recorded.object_of) os; programs = []; players = [] }

-- this holds of an object if its ancestors end
abbrev pub WhereEnded : Records → (ℕ → Type 0) → ℕ → Type 0
WhereEnded r P x = (ys : List ℕ) → IsLineage (parent_links r) x ys → P x

-- lists of names
abbrev pub rows_of : List (Vec (List ℕ)) → List (List (List ℕ))
rows_of rows = map (λ names. names.items) rows

-- of each name, whether it doesn't occur after itself
abbrev pub freshness : List (List ℕ) → List Bool
freshness [] = []
freshness (n ∷ ns) = not (list_any (same_name n) ns) ∷ freshness ns

-- whether one of these names occurs again, among them or among those above
abbrev pub clashes_with : List (List ℕ) → List (List ℕ) → Bool
clashes_with [] above = false
clashes_with (n ∷ ns) above = list_any (same_name n) (ns ++ above) || clashes_with ns above

-- the map has exactly these names; for each, the nearest last, a flag says whether it was new
pub record AreMet {X : Type 0} (met : BTreeMap (Bor (List ℕ)) X) (fresh : List Bool) (names : List (List ℕ)) : Type 0 where
  pub has : (n : List ℕ) → is_some (tree.get_by (λ k. slice_cmp nat_cmp n k.now) met) ≡ list_any (same_name n) names
  pub flags : reverse fresh ≡ freshness names

-- The steps of changes, for the functions that changes are made of: the meaning of a change needs none of these
-- definitions.
use Rattle.std.specs.Prelude.{◌≡◌, ◌⊎◌, ℕ, ◌<◌, ◌+◌, List, [], ◌∷◌, ◌++◌, Option, Some, None, Bool, true, false, length, slice_index_or, slice_set, map, nat_lt, is_some, FitsSigned}
use Rattle.std.specs.Int.{w32}
use Rattle.std.specs.List.{list_any}
use Rattle.std.specs.BTreeMap as tree
use Rattle.std.specs.BTreeMap.{BTreeMap}
use Rattle.std.specs.Ordering.{nat_cmp}
use Rattle.std.specs.Cmp.Lexicographic.{slice_cmp}
use denote.Ref.{Bor}
use Rattle.moo_value.specs.Compare.{folded}
use Rattle.moo_value.specs.Size.{IsString}
use Rattle.moo_world_tree.specs.Forest.{Links}
use Rattle.moo_world_tree.specs.Walk.{step_at, met}
use Rattle.moo_world_tree.specs.declared.walk.Step.{Step}
use Rattle.moo_world_object.specs.Cells.{Cell, Key, is_named, key_of, cleared}
use Rattle.moo_world_object.specs.Rows.{put_before, taken_before, with_new_name}
use Rattle.moo_world_object.specs.Names.{same_name}
use Rattle.moo_world_object.specs.Objects.{Object}
use Rattle.moo_world_table.specs.World.{World, fitted_over, with_cells, object_of, thing_of, refitted, most, HasStored}
use Rattle.moo_world_table.specs.Properties.{is_taken, is_full}

-- the first n rows along a walk: the first is given, each other one is fitted to that of the object right above its own
pub record AreFitted (objects : List (Option Object)) (walk : List Step) (top : List Cell) (n : ℕ) (rows : List (List Cell)) : Type 0 where
  pub many : length rows ≡ n
  pub first : slice_index_or rows 0 [] ≡ top
  pub fitted : (i : ℕ) → 0 < i → i < n →
      slice_index_or rows i [] ≡ fitted_over (step_at walk i).node (object_of objects (step_at walk i).node) (slice_index_or rows (step_at walk i).from [])

-- each of these objects with its new row
abbrev pub with_rows : List (Option Object) → List ℕ → List (List Cell) → List (Option Object)
with_rows objects [] rows = objects
with_rows objects (y ∷ ys) [] = objects
with_rows objects (y ∷ ys) (row ∷ rows) = slice_set (with_rows objects ys rows) y (with_cells (object_of (with_rows objects ys rows) y) row)

-- whether an object defines a name that one of these cells has
abbrev pub own_clash : List (Option Object) → List Cell → ℕ → Bool
own_clash objects cells y = list_any (λ n. list_any (is_named (folded n)) cells) (thing_of objects y).defined

-- the names that these objects define, letters folded
abbrev pub own_names : List (Option Object) → List ℕ → List (List ℕ)
own_names objects [] = []
own_names objects (y ∷ ys) = map folded (thing_of objects y).defined ++ own_names objects ys

-- a map with just these names
abbrev pub HasJust : {X : Type 0} → BTreeMap (Bor (List ℕ)) X → List (List ℕ) → Type 0
HasJust known names = (n : List ℕ) → is_some (tree.get_by (λ k. slice_cmp nat_cmp n k.now) known) ≡ list_any (λ m. same_name m n) names

-- whether an object would have too many cells, with so many more and so many fewer
abbrev pub is_crowded_by : List (Option Object) → ℕ → ℕ → ℕ → Bool
is_crowded_by objects gained lost y = nat_lt (most + lost) (length (thing_of objects y).cells + gained)

-- an object with a clear cell for one more definition, before the last k of its cells
abbrev pub with_clear_cell : ℕ → Cell → Option Object → Option Object
with_clear_cell k cell None = None
with_clear_cell k cell (Some o) = Some (record o { cells = put_before k (cleared o.owner cell) o.cells })

-- an object with one more definition of its own, whose cell comes before the last k of its cells
abbrev pub with_own_cell : ℕ → List ℕ → Cell → Option Object → Option Object
with_own_cell k name cell None = None
with_own_cell k name cell (Some o) = Some (record o { defined = o.defined ++ name ∷ []; cells = put_before k cell o.cells })

-- an object without the cell before the last k of its cells
abbrev pub without_cell_before : ℕ → Option Object → Option Object
without_cell_before k None = None
without_cell_before k (Some o) = Some (record o { cells = taken_before k o.cells })

-- an object with another name, whose letters are folded, in its first cell for a definition
abbrev pub with_new_cell_name : Key → List ℕ → Object → Object
with_new_cell_name k name o = record o { cells = with_new_name k name o.cells }

-- the rows along a walk, put in place, fit the objects to a tree
pub record AreReady (objects : List (Option Object)) (tree : List Links) (walk : List Step) (rows : List (List Cell)) : Type 0 where
  pub many : length rows ≡ length walk
  pub within : (k : ℕ) → k < length walk → (step_at walk k).node < length objects
  pub fit : with_rows objects (met walk) rows ≡ refitted objects tree

-- the objects once each of these was changed
abbrev pub changed_along : (Option Object → Option Object) → List (Option Object) → List ℕ → List (Option Object)
changed_along f objects [] = objects
changed_along f objects (y ∷ ys) = changed_along f (slice_set objects y (f (object_of objects y))) ys

-- the objects of a walk once the first has one more definition, and each other one a clear cell for it
abbrev pub defined_along : ℕ → List ℕ → Cell → List (Option Object) → List ℕ → List (Option Object)
defined_along k name cell objects [] = objects
defined_along k name cell objects (x ∷ ys) =
    let below = changed_along (with_clear_cell k cell) objects ys in
    slice_set below x (with_own_cell k name cell (object_of below x))

-- a definition that keeps a world well formed: of a name that is free, with a cell of its own, if the limits allow it
pub record IsDefinable (w : World) (x : ℕ) (name : List ℕ) (cell : Cell) : Type 0 where
  pub free : is_taken w.objects w.inheritance x (folded name) ≡ false
  pub roomy : is_full w.objects w.inheritance x ≡ false
  pub own : key_of cell ≡ (x, folded name)
  pub filled : is_some cell.value ≡ true
  pub stored : HasStored cell.value
  pub owner : FitsSigned w32 cell.owner
  pub string : IsString name

-- a new name that keeps a world well formed: the old one in other letters, or one that is free
pub record IsRenamable (w : World) (x : ℕ) (name spelling : List ℕ) : Type 0 where
  pub free : (folded spelling ≡ name) ⊎ (is_taken w.objects w.inheritance x (folded spelling) ≡ false)
  pub string : IsString spelling

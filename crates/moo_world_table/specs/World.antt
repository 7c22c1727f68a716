-- The object world: numbered objects in a tree of parents and a tree of places, with properties and players.
use Rattle.std.specs.Prelude.{◌≡◌, ℕ, ◌≤◌, ℤ, pos, List, [], ◌∷◌, ◌++◌, Option, Some, None, Bool, true, false, ◌||◌, length, map, slice_index_or, is_some, nat_lt, FitsSigned}
use Rattle.std.specs.Int.{w32}
use Rattle.std.specs.Option.{unwrap_or}
use Rattle.std.specs.List.{range_with_len, list_any, All, count_by, sum_by}
use Rattle.moo_value.specs.Compare.{folded}
use Rattle.moo_value.specs.Tree.{Tree}
use Rattle.moo_value.specs.Size.{IsString, IsStored}
use Rattle.moo_world_object.specs.Flags.{no_flags}
use Rattle.moo_world_tree.specs.Forest.{Links, alone, ancestors, IsForest}
use Rattle.moo_world_object.specs.Names.{same_name}
use Rattle.moo_world_object.specs.Cells.{Cell, Key, key_of}
use Rattle.moo_world_object.specs.Objects.{Object, fitted_row}
use Rattle.moo_world_object.specs.declared.verb.Verb.{Verb}

pub record World : Type 0 where
  pub objects : List (Option Object)
  pub inheritance : List Links
  pub containment : List Links
  pub players : List ℤ

-- the object of a number, if it is valid
abbrev pub object_of : List (Option Object) → ℕ → Option Object
object_of objects x = slice_index_or objects x None

abbrev pub nothing : Object
nothing = record { name = []; owner = pos 0; flags = no_flags; verbs = []; defined = []; cells = [] }

-- what is at a number, as an object that has nothing if it is not valid
abbrev pub thing_of : List (Option Object) → ℕ → Object
thing_of objects x = unwrap_or (object_of objects x) nothing

abbrev pub keys_defined_on : List (Option Object) → ℕ → List Key
keys_defined_on objects x = map (λ name. (x, folded name)) (thing_of objects x).defined

-- the definitions on the objects of a way up, in their order
abbrev pub keys_along : List (Option Object) → List ℕ → List Key
keys_along objects [] = []
keys_along objects (x ∷ way) = keys_defined_on objects x ++ keys_along objects way

-- the definitions on an object and on its ancestors
abbrev pub definitions : List (Option Object) → List Links → ℕ → List Key
definitions objects tree x = keys_along objects (x ∷ ancestors tree x)

-- whether a name occurs twice
abbrev pub has_twice : List (List ℕ) → Bool
has_twice [] = false
has_twice (x ∷ xs) = list_any (same_name x) xs || has_twice xs

-- whether an object has two definitions of one name
abbrev pub has_clash : List (Option Object) → List Links → ℕ → Bool
has_clash objects tree x = has_twice (map (λ k. k.1) (definitions objects tree x))

-- whether some object would have two definitions of one name
abbrev pub clashes : List (Option Object) → List Links → Bool
clashes objects tree = list_any (has_clash objects tree) (range_with_len 0 (length objects))

-- how many properties an object may have, inherited ones too, how many verbs, how many objects, players and programs there may be
abbrev pub most : ℕ
most = 1000000

-- how many of these verbs have a program; an empty one counts
abbrev pub programs_of : List Verb → ℕ
programs_of vs = count_by (λ v. is_some v.program) vs

-- how many programs the verbs of all objects have together
abbrev pub programs_in : List (Option Object) → ℕ
programs_in objects = sum_by (λ o. programs_of (unwrap_or o nothing).verbs) objects

-- whether some object would have too many properties
abbrev pub is_crowded : List (Option Object) → List Links → ℕ → Bool
is_crowded objects tree x = nat_lt most (length (definitions objects tree x))

abbrev pub crowds : List (Option Object) → List Links → Bool
crowds objects tree = list_any (is_crowded objects tree) (range_with_len 0 (length objects))

-- the fitted cells of the object at a number; the given cells alone if it is not valid
abbrev pub fitted_over : ℕ → Option Object → List Cell → List Cell
fitted_over x None above = above
fitted_over x (Some o) above = fitted_row x o above

-- the cells of the first object of a way up, fitted from the last one down
abbrev pub fitted_along : List (Option Object) → List ℕ → List Cell
fitted_along objects [] = []
fitted_along objects (x ∷ way) = fitted_over x (object_of objects x) (fitted_along objects way)

-- an object with other cells
abbrev pub with_cells : Option Object → List Cell → Option Object
with_cells None cells = None
with_cells (Some o) cells = Some (record o { cells = cells })

-- an object with its cells fitted to a tree of parents
abbrev pub refitted_object : List (Option Object) → List Links → ℕ → Option Object
refitted_object objects tree x = with_cells (object_of objects x) (fitted_along objects (x ∷ ancestors tree x))

-- the objects under another tree of parents: each has the cells of its own definitions, and one for each cell of
-- its parent, the one it had or a clear one
abbrev pub refitted : List (Option Object) → List Links → List (Option Object)
refitted objects tree = map (refitted_object objects tree) (range_with_len 0 (length objects))

-- the cell of an object's own definition has a value
abbrev pub IsFilled : ℕ → Cell → Type 0
IsFilled x c = c.definer ≡ x → is_some c.value ≡ true

-- a cell's value is one that may be stored
abbrev pub HasStored : Option Tree → Type 0
HasStored None = Unit {0}
HasStored (Some v) = IsStored v

-- the owners of an object, of its cells and of its verbs are numbers of 32 bits
pub record HasNumbers (o : Object) : Type 0 where
  pub owner : FitsSigned w32 o.owner
  pub cells : All (λ c. FitsSigned w32 c.owner) o.cells
  pub verbs : All (λ v. FitsSigned w32 v.owner) o.verbs

-- an object that keeps the limits
pub record IsFine (o : Object) : Type 0 where
  pub name : IsString o.name
  pub names : All IsString o.defined
  pub values : All (λ c. HasStored c.value) o.cells
  pub few_cells : length o.cells ≤ most
  pub verb_names : All (λ v. IsString v.names) o.verbs
  pub few_verbs : length o.verbs ≤ most
  pub numbers : HasNumbers o

-- a tree of objects: no cycles, exact lists, and what is not valid is joined to nothing
pub record IsJoined (objects : List (Option Object)) (tree : List Links) : Type 0 where
  pub forest : IsForest tree
  pub many : length tree ≡ length objects
  pub free : (x : ℕ) → object_of objects x ≡ None → slice_index_or tree x alone ≡ alone

-- what the objects have, under their tree of parents
pub record IsStocked (objects : List (Option Object)) (tree : List Links) : Type 0 where
  -- a cell for each definition on the object or an ancestor, and no other
  pub exact_cells : (x : ℕ) → map key_of (thing_of objects x).cells ≡ definitions objects tree x
  pub names_once : (x : ℕ) → has_clash objects tree x ≡ false
  pub own_filled : (x : ℕ) → All (IsFilled x) (thing_of objects x).cells
  pub fine : (x : ℕ) → IsFine (thing_of objects x)

-- what every world keeps
pub record IsWellFormed (w : World) : Type 0 where
  pub parents : IsJoined w.objects w.inheritance
  pub places : IsJoined w.objects w.containment
  pub stocked : IsStocked w.objects w.inheritance
  pub few : length w.objects ≤ most
  pub few_players : length w.players ≤ most
  pub player_numbers : All (FitsSigned w32) w.players
  pub few_programs : programs_in w.objects ≤ most

-- a well formed world, and how many programs it has
pub record IsCounted (w : World) (programs : ℕ) : Type 0 where
  pub formed : IsWellFormed w
  pub counted : programs ≡ programs_in w.objects

-- the cells of an object, and none for no object
abbrev pub cells_of : List (Option Object) → Option ℕ → List Cell
cells_of objects None = []
cells_of objects (Some x) = (thing_of objects x).cells

-- The worlds after the calls that change one.
use Rattle.std.specs.Prelude.{ℕ, ℤ, List, [], ◌∷◌, ◌++◌, Option, Some, None, Bool, not, map, filter, slice_set, length, false}
use Rattle.moo_value.specs.Tree.{Tree}
use Rattle.moo_value.specs.Compare.{folded}
use Rattle.moo_world_tree.specs.Forest.{alone, moved, Links, is_within}
use Rattle.moo_world_object.specs.Names.{same_name}
use Rattle.moo_world_object.specs.Cells.{Cell, Key, is_key, cleared, with_value, valued}
use Rattle.moo_world_object.specs.Flags.{no_flags}
use Rattle.moo_world_object.specs.Objects.{Object}
use Rattle.moo_world_object.specs.declared.verb.Verb.{Verb}
use Rattle.moo_world_object.specs.Verbs.{changed_at}
use Rattle.std.specs.Option.{option_map}
use Rattle.std.specs.List.{remove}
use Rattle.moo_world_table.specs.World.{World, object_of, refitted, cells_of}

-- a new object: without a name, flags, verbs and definitions, its cells clear
abbrev pub newborn : ℤ → List Cell → Object
newborn owner above = record { name = []; owner = owner; flags = no_flags; verbs = []; defined = []; cells = map (cleared owner) above }

-- the world once the next number was given to a new object
abbrev pub after_create : World → Option ℕ → ℤ → World
after_create w parent owner = record w {
  objects = w.objects ++ Some (newborn owner (cells_of w.objects parent)) ∷ [];
  inheritance = moved (w.inheritance ++ alone ∷ []) (length w.objects) parent;
  containment = w.containment ++ alone ∷ [];
}

-- the world after the parent of x became p
abbrev pub after_chparent : World → ℕ → Option ℕ → World
after_chparent w x p = record w { objects = refitted w.objects (moved w.inheritance x p); inheritance = moved w.inheritance x p }

-- the world after x moved
abbrev pub after_move : World → ℕ → Option ℕ → World
after_move w x to = record w { containment = moved w.containment x to }

-- an object with one more definition, and its cell
abbrev pub with_definition : List ℕ → Cell → Option Object → Option Object
with_definition name cell None = None
with_definition name cell (Some o) = Some (record o { defined = o.defined ++ name ∷ []; cells = o.cells ++ cell ∷ [] })

-- the objects once x has one more definition, before the others are fitted to it
abbrev pub with_definition_on : List (Option Object) → ℕ → List ℕ → Cell → List (Option Object)
with_definition_on objects x name cell = slice_set objects x (with_definition name cell (object_of objects x))

-- the world once x has one more definition: each descendant has a clear cell for it
abbrev pub after_define : World → ℕ → List ℕ → Cell → World
after_define w x name cell = record w { objects = refitted (with_definition_on w.objects x name cell) w.inheritance }

-- an object that has lost its cell for a definition
abbrev pub without_cell : Key → Option Object → Option Object
without_cell k None = None
without_cell k (Some o) = Some (record o { cells = filter (λ c. not (is_key k c)) o.cells })

-- an object that no longer defines a name, whose letters are folded
abbrev pub without_name : List ℕ → Option Object → Option Object
without_name name None = None
without_name name (Some o) = Some (record o { defined = filter (λ n. not (same_name name (folded n))) o.defined })

-- the world once x no longer defines a name: no object has a cell for it
abbrev pub after_undefine : World → ℕ → List ℕ → World
after_undefine w x name = record w { objects = map (without_cell (x, name)) (slice_set w.objects x (without_name name (object_of w.objects x))) }

-- the objects with one of them changed
abbrev pub changed_on : List (Option Object) → ℕ → (Object → Object) → List (Option Object)
changed_on objects x f = slice_set objects x (option_map f (object_of objects x))

-- the world with one object changed
abbrev pub with_object : World → ℕ → (Object → Object) → World
with_object w x f = record w { objects = changed_on w.objects x f }

abbrev pub with_verb : Verb → Object → Object
with_verb v o = record o { verbs = o.verbs ++ v ∷ [] }

abbrev pub without_verb : ℕ → Object → Object
without_verb i o = record o { verbs = remove o.verbs i }

-- an object with one verb changed
abbrev pub with_changed_verb : ℕ → (Verb → Verb) → Object → Object
with_changed_verb i f o = record o { verbs = changed_at i f o.verbs }

-- an object with a value in its cell of a name
abbrev pub with_value_of : List ℕ → Tree → Object → Object
with_value_of name v o = record o { cells = with_value name v o.cells }

-- an object with a value in its cell at a place
abbrev pub with_value_at : ℕ → Tree → Object → Object
with_value_at place v o = record o { cells = changed_at place (valued v) o.cells }

-- x is the new place, or is above it
abbrev pub would_loop : List Links → ℕ → Option ℕ → Bool
would_loop tree x None = false
would_loop tree x (Some up) = is_within tree up x

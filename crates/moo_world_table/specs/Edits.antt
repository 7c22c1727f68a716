-- One object with a property set, cleared, of another owner or another name.
use Rattle.std.specs.Prelude.{ℕ, ℤ, List, [], ◌∷◌, map, Option, Some, None, if◌then◌else◌}
use Rattle.moo_value.specs.Tree.{Tree, integer, object, error, string, list}
use Rattle.moo_value.specs.Compare.{folded}
use Rattle.moo_world_object.specs.Names.{same_name}
use Rattle.moo_world_object.specs.Cells.{Key, at_key, emptied, with_info, renamed}
use Rattle.moo_world_object.specs.Objects.{Object}
use Rattle.moo_world_object.specs.declared.cell.PropPerms.{PropPerms}
use Rattle.moo_world_object.specs.declared.flags.Flags.{Flags}
use Rattle.moo_world_object.specs.declared.built_in_property.BuiltInProperty.{BuiltInProperty}
use Rattle.moo_world_object.specs.declared.built_in_property.BuiltInProperty.TheVariants as property
use Rattle.moo_builtin_operator.specs.Truth.{is_true}
use Rattle.moo_world_table.specs.Changes.{with_value_of}

-- an object with a name, if the value is a string
abbrev pub with_name : Tree → Object → Object
with_name (integer i) o = o
with_name (object n) o = o
with_name (error e) o = o
with_name (string s) o = record o { name = s }
with_name (list es) o = o

-- an object with an owner, if the value is an object's number
abbrev pub with_owner : Tree → Object → Object
with_owner (integer i) o = o
with_owner (object n) o = record o { owner = n }
with_owner (error e) o = o
with_owner (string s) o = o
with_owner (list es) o = o

abbrev pub with_flags : (Flags → Flags) → Object → Object
with_flags f o = record o { flags = f o.flags }

-- an object with a value in a built-in property: the flags take any value's truth
abbrev pub with_built_in : BuiltInProperty → Tree → Object → Object
with_built_in property.Name v o = with_name v o
with_built_in property.Owner v o = with_owner v o
with_built_in property.Location v o = o
with_built_in property.Contents v o = o
with_built_in property.Programmer v o = with_flags (λ f. record f { programmer = is_true v }) o
with_built_in property.Wizard v o = with_flags (λ f. record f { wizard = is_true v }) o
with_built_in property.Read v o = with_flags (λ f. record f { read = is_true v }) o
with_built_in property.Write v o = with_flags (λ f. record f { write = is_true v }) o
with_built_in property.Fertile v o = with_flags (λ f. record f { fertile = is_true v }) o

-- an object with a value in the property of a name, whose letters are folded
abbrev pub with_named : List ℕ → Tree → Option BuiltInProperty → Object → Object
with_named name v None o = with_value_of name v o
with_named name v (Some property) o = with_built_in property v o

-- an object whose cell for a definition is clear
abbrev pub with_clear : Key → Object → Object
with_clear k o = record o { cells = map (at_key k emptied) o.cells }

-- an object whose cell for a definition has another owner and other permissions
abbrev pub with_cell_info : Key → ℤ → PropPerms → Object → Object
with_cell_info k owner perms o = record o { cells = map (at_key k (with_info owner perms)) o.cells }

-- names in which one, whose letters are folded, is spelled otherwise
abbrev pub respelled : List ℕ → List ℕ → List (List ℕ) → List (List ℕ)
respelled name spelling [] = []
respelled name spelling (d ∷ ds) = if same_name name (folded d) then spelling ∷ ds else d ∷ respelled name spelling ds

abbrev pub with_respelled : List ℕ → List ℕ → Object → Object
with_respelled name spelling o = record o { defined = respelled name spelling o.defined }

-- an object whose cell for a definition has another name, whose letters are folded
abbrev pub with_renamed_cell : Key → List ℕ → Object → Object
with_renamed_cell k name o = record o { cells = map (at_key k (renamed name)) o.cells }

-- When the calls that set and clear properties raise, and what they leave.
use Rattle.std.specs.Prelude.{ℕ, List, Option, Some, None, Bool, true, false, ◌==◌, if◌then◌else◌}
use Rattle.moo_value.specs.Tree.{Tree, integer, object, error, string, list}
use Rattle.moo_value.specs.declared.error_code.ErrorCode.{ErrorCode}
use Rattle.moo_value.specs.declared.error_code.ErrorCode.TheVariants.{TypeMismatch, Permission, InvalidIndirection, InvalidArgument, PropertyNotFound}
use Rattle.moo_world_object.specs.BuiltIn.{built_in_of}
use Rattle.moo_world_object.specs.Cells.{Key}
use Rattle.moo_world_object.specs.declared.built_in_property.BuiltInProperty.{BuiltInProperty}
use Rattle.moo_world_object.specs.declared.built_in_property.BuiltInProperty.TheVariants as property
use Rattle.moo_world_table.specs.World.{World}
use Rattle.moo_world_table.specs.Changes.{with_object}
use Rattle.moo_world_table.specs.Properties.{definition_named}
use Rattle.moo_world.specs.PropertyCalls.{plain_raises, unless_built_in}
use Rattle.moo_world.specs.VerbCalls.{world_with_object}
use Rattle.moo_world_table.specs.Edits.{with_named, with_clear}

abbrev pub is_string : Tree → Bool
is_string (integer i) = false
is_string (object o) = false
is_string (error e) = false
is_string (string s) = true
is_string (list es) = false

abbrev pub is_object : Tree → Bool
is_object (integer i) = false
is_object (object o) = true
is_object (error e) = false
is_object (string s) = false
is_object (list es) = false

-- what setting a built-in property raises: a name is a string and an owner an object, and an object's place and contents are
-- not set
abbrev pub set_built_in_raises : BuiltInProperty → Tree → Option ErrorCode
set_built_in_raises property.Name v = if is_string v then None else Some TypeMismatch
set_built_in_raises property.Owner v = if is_object v then None else Some TypeMismatch
set_built_in_raises property.Location v = Some Permission
set_built_in_raises property.Contents v = Some Permission
set_built_in_raises property.Programmer v = None
set_built_in_raises property.Wizard v = None
set_built_in_raises property.Read v = None
set_built_in_raises property.Write v = None
set_built_in_raises property.Fertile v = None

-- what setting the property of a name, whose letters are folded, raises
abbrev pub set_named_raises : World → ℕ → List ℕ → Tree → Option BuiltInProperty → Option ErrorCode
set_named_raises w x name v None = plain_raises w x name
set_named_raises w x name v (Some property) = set_built_in_raises property v

abbrev pub set_raises : World → Option ℕ → List ℕ → Tree → Option ErrorCode
set_raises w None name v = Some InvalidIndirection
set_raises w (Some x) name v = set_named_raises w x name v (built_in_of name)

abbrev pub world_set : World → Option ℕ → List ℕ → Tree → World
world_set w x name v = world_with_object w x (with_named name v (built_in_of name))

-- what clearing a property raises: it has to be one that the object inherits
abbrev pub clear_definition_raises : ℕ → Option Key → Option ErrorCode
clear_definition_raises x None = Some PropertyNotFound
clear_definition_raises x (Some k) = if k.0 == x then Some InvalidArgument else None

abbrev pub clear_property_raises : World → Option ℕ → List ℕ → Option ErrorCode
clear_property_raises w None name = Some InvalidArgument
clear_property_raises w (Some x) name = unless_built_in name (clear_definition_raises x (definition_named w x name))

-- the world once an object's cell for a definition is clear
abbrev pub after_clear : World → ℕ → Option Key → World
after_clear w x None = w
after_clear w x (Some k) = with_object w x (with_clear k)

abbrev pub world_clear : World → Option ℕ → List ℕ → World
world_clear w None name = w
world_clear w (Some x) name = after_clear w x (definition_named w x name)

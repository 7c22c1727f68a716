-- When the calls on properties raise, and what they leave.
use Rattle.std.specs.Prelude.{ℕ, ℤ, List, Option, Some, None, if◌then◌else◌, is_some}
use Rattle.std.specs.List.{list_any}
use Rattle.moo_value.specs.Tree.{Tree}
use Rattle.moo_value.specs.declared.error_code.ErrorCode.{ErrorCode}
use Rattle.moo_value.specs.declared.error_code.ErrorCode.TheVariants.{InvalidArgument, PropertyNotFound, Quota}
use Rattle.moo_world_object.specs.Names.{same_name}
use Rattle.moo_world_object.specs.Cells.{own_cell}
use Rattle.moo_world_object.specs.BuiltIn.{built_in_of}
use Rattle.moo_world_object.specs.declared.cell.PropPerms.{PropPerms}
use Rattle.moo_value.specs.Compare.{folded}
use Rattle.moo_world_table.specs.World.{World, thing_of}
use Rattle.moo_world_table.specs.Changes.{after_define, after_undefine}
use Rattle.moo_world_table.specs.Properties.{definition_named, is_taken, is_full}

-- the error of looking a property up, if no built-in one has the name
abbrev pub plain_raises : World → ℕ → List ℕ → Option ErrorCode
plain_raises w x name = if is_some (definition_named w x name) then None else Some PropertyNotFound

-- what a call on a property raises: a built-in one has no definition, and hides one of its name that a file gives
abbrev pub unless_built_in : List ℕ → Option ErrorCode → Option ErrorCode
unless_built_in name raises = if is_some (built_in_of name) then Some PropertyNotFound else raises

-- what one more definition raises, on a valid object
abbrev pub define_raises : World → ℕ → List ℕ → Option ErrorCode
define_raises w x name =
    if is_taken w.objects w.inheritance x name then Some InvalidArgument
    else if is_full w.objects w.inheritance x then Some Quota
    else None

abbrev pub add_property_raises : World → Option ℕ → List ℕ → Option ErrorCode
add_property_raises w None name = Some InvalidArgument
add_property_raises w (Some x) name = if is_some (built_in_of name) then Some InvalidArgument else define_raises w x name

-- those of its raises that are looked at before memory is taken
abbrev pub name_raises : Option ℕ → List ℕ → Option ErrorCode
name_raises None name = Some InvalidArgument
name_raises (Some x) name = if is_some (built_in_of name) then Some InvalidArgument else None

-- the world once a valid object has one more property
abbrev pub world_define : World → Option ℕ → List ℕ → Tree → ℤ → PropPerms → World
world_define w None name v owner perms = w
world_define w (Some x) name v owner perms = after_define w x name (own_cell x (folded name) v owner perms)

-- what taking a definition away raises: the object itself has to have it
abbrev pub undefine_raises : World → ℕ → List ℕ → Option ErrorCode
undefine_raises w x name = if list_any (λ n. same_name name (folded n)) (thing_of w.objects x).defined then None else Some PropertyNotFound

abbrev pub delete_property_raises : World → Option ℕ → List ℕ → Option ErrorCode
delete_property_raises w None name = Some InvalidArgument
delete_property_raises w (Some x) name = unless_built_in name (undefine_raises w x name)

abbrev pub world_undefine : World → Option ℕ → List ℕ → World
world_undefine w None name = w
world_undefine w (Some x) name = after_undefine w x name

-- what looking at the owner and permissions of a property raises, and whether it is clear
abbrev pub info_raises : World → Option ℕ → List ℕ → Option ErrorCode
info_raises w None name = Some InvalidArgument
info_raises w (Some x) name = unless_built_in name (plain_raises w x name)

-- When changes of a property's owner, permissions and name raise, and what they leave.
use Rattle.std.specs.Prelude.{ℕ, ℤ, List, Option, Some, None, ◌==◌, if◌then◌else◌, is_some}
use Rattle.moo_value.specs.Compare.{folded}
use Rattle.moo_value.specs.declared.error_code.ErrorCode.{ErrorCode}
use Rattle.moo_value.specs.declared.error_code.ErrorCode.TheVariants.{InvalidArgument, PropertyNotFound}
use Rattle.moo_world_object.specs.Names.{same_name}
use Rattle.moo_world_object.specs.BuiltIn.{built_in_of}
use Rattle.moo_world_object.specs.Cells.{Key}
use Rattle.moo_world_object.specs.declared.cell.PropPerms.{PropPerms}
use Rattle.moo_world_table.specs.World.{World}
use Rattle.moo_world_table.specs.Changes.{with_object}
use Rattle.moo_world_table.specs.Properties.{definition_named, is_taken}
use Rattle.moo_world_table.specs.Edits.{with_cell_info}
use Rattle.moo_world.specs.PropertyCalls.{unless_built_in}
use Rattle.moo_world_table.specs.Renames.{after_rename}

abbrev pub taken_raises : World → ℕ → List ℕ → Option ErrorCode
taken_raises w x name = if is_taken w.objects w.inheritance x name then Some InvalidArgument else None

-- what another name, letters folded, for a definition raises: the object itself has to have the definition, and a name that is not
-- the one it has must be neither built in nor one that the object, an ancestor or a descendant has
abbrev pub rename_raises : World → ℕ → Key → List ℕ → Option ErrorCode
rename_raises w x k name =
    if k.0 == x then
    (if same_name name k.1 then None
    else if is_some (built_in_of name) then Some InvalidArgument
    else taken_raises w x name)
    else Some InvalidArgument

-- the error of changing the info of a definition of this name, and its name if a new one is given
abbrev pub info_change_raises : World → ℕ → Option (List ℕ) → Option Key → Option ErrorCode
info_change_raises w x spelling None = Some PropertyNotFound
info_change_raises w x None (Some k) = None
info_change_raises w x (Some spelling) (Some k) = rename_raises w x k (folded spelling)

abbrev pub set_info_raises : World → Option ℕ → List ℕ → Option (List ℕ) → Option ErrorCode
set_info_raises w None name spelling = Some InvalidArgument
set_info_raises w (Some x) name spelling = unless_built_in name (info_change_raises w x spelling (definition_named w x name))

-- the world once the object's cell has another owner and other permissions, and the definition another name, if one is given
abbrev pub after_info : World → ℕ → ℤ → PropPerms → Option (List ℕ) → Option Key → World
after_info w x owner perms spelling None = w
after_info w x owner perms None (Some k) = with_object w x (with_cell_info k owner perms)
after_info w x owner perms (Some spelling) (Some k) = with_object (after_rename w x k.1 spelling) x (with_cell_info (x, folded spelling) owner perms)

abbrev pub world_set_info : World → Option ℕ → List ℕ → ℤ → PropPerms → Option (List ℕ) → World
world_set_info w None name owner perms spelling = w
world_set_info w (Some x) name owner perms spelling = after_info w x owner perms spelling (definition_named w x name)

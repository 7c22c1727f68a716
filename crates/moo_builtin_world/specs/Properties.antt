-- The results of the functions on properties.
use Rattle.std.specs.Prelude.{ℕ, ℤ, List, [], ◌∷◌, map, Bool, ◌&&◌, ◌||◌, not, is_some, Option, Some, None, Result, Ok, Err}
use Rattle.std.specs.Ordering.{int_eq}
use Rattle.moo_value.specs.declared.error_code.ErrorCode.{ErrorCode}
use Rattle.moo_value.specs.declared.error_code.ErrorCode.TheVariants.{TypeMismatch, PropertyNotFound}
use Rattle.moo_value.specs.Compare.{folded}
use Rattle.moo_value.specs.Tree.{Tree, object, string, list_of}
use Rattle.moo_builtin_operator.specs.Answer.{limited}
use Rattle.moo_world_object.specs.Cells.{Cell}
use Rattle.moo_world_table.specs.World.{World}
use Rattle.moo_world.specs.Calls.{number_of}
use Rattle.moo_world.specs.EditCalls.{clear_property_raises, world_clear}
use Rattle.moo_world.specs.InfoCalls.{set_info_raises, world_set_info}
use Rattle.moo_world.specs.NamedProperties.{truth}
use Rattle.moo_world.specs.Numbered.{object_numbered, cell_numbered}
use Rattle.moo_world.specs.PropertyCalls.{info_raises, add_property_raises, world_define, delete_property_raises, world_undefine}
use Rattle.moo_world.specs.Rights.{is_wizard, controls, may_read_object, may_write_object, may_read_property, may_write_property}
use Rattle.moo_world_text.specs.Permissions.{prop_perms_text}
use Rattle.moo_builtin_world.specs.declared.forms.GivenProperty.{GivenProperty}
use Rattle.moo_builtin_world.specs.Forms.{given_property}
use Rattle.moo_builtin_world.specs.Order.{asked, changes, given}
use Rattle.moo_builtin_world.specs.Objects.{of_valid}

-- the names of an object's own properties, as they are spelled
abbrev pub properties : World → ℤ → List Tree → Result Tree ErrorCode
properties w p (object o ∷ []) = of_valid (object_numbered w o) (λ thing. asked None (may_read_object w p o) (limited (list_of (map (λ name. string name) thing.defined))))
properties w p _ = Err TypeMismatch

-- {owner, perms}
abbrev pub info_of_cell : Option Cell → Result Tree ErrorCode
info_of_cell None = Err PropertyNotFound
info_of_cell (Some c) = limited (list_of (object c.owner ∷ string (prop_perms_text c.perms) ∷ []))

unfoldable pub info_told : World → ℤ → ℤ → List ℕ → Result Tree ErrorCode
info_told w p o name =
    asked (info_raises w (number_of w.objects o) (folded name)) (may_read_property w p o name) (info_of_cell (cell_numbered w o name))

abbrev pub property_info : World → ℤ → List Tree → Result Tree ErrorCode
property_info w p (object o ∷ string name ∷ []) = info_told w p o name
property_info w p _ = Err TypeMismatch

-- whether a cell has no value of its own
abbrev pub clearness_of_cell : Option Cell → Result Tree ErrorCode
clearness_of_cell None = Err PropertyNotFound
clearness_of_cell (Some c) = Ok (truth (not (is_some c.value)))

unfoldable pub clearness : World → ℤ → ℤ → List ℕ → Result Tree ErrorCode
clearness w p o name =
    asked (info_raises w (number_of w.objects o) (folded name)) (may_read_property w p o name) (clearness_of_cell (cell_numbered w o name))

abbrev pub is_clear_property : World → ℤ → List Tree → Result Tree ErrorCode
is_clear_property w p (object o ∷ string name ∷ []) = clearness w p o name
is_clear_property w p _ = Err TypeMismatch

unfoldable pub cleared_named : World → ℤ → ℤ → List ℕ → Result (Tree × World) ErrorCode
cleared_named w p o name =
    let x = number_of w.objects o in
    changes (clear_property_raises w x (folded name)) (may_write_property w p o name) (world_clear w x (folded name))

abbrev pub clear_property : World → ℤ → List Tree → Result (Tree × World) ErrorCode
clear_property w p (object o ∷ string name ∷ []) = cleared_named w p o name
clear_property w p _ = Err TypeMismatch

unfoldable pub without_named : World → ℤ → ℤ → List ℕ → Result (Tree × World) ErrorCode
without_named w p o name =
    let x = number_of w.objects o in
    changes (delete_property_raises w x (folded name)) (may_write_object w p o) (world_undefine w x (folded name))

abbrev pub delete_property : World → ℤ → List Tree → Result (Tree × World) ErrorCode
delete_property w p (object o ∷ string name ∷ []) = without_named w p o name
delete_property w p _ = Err TypeMismatch

-- an owner other than the one that a cell has is given by wizards alone
abbrev pub may_give_cell : World → ℤ → Option Cell → ℤ → Bool
may_give_cell w p None owner = is_wizard w p
may_give_cell w p (Some c) owner = int_eq c.owner owner || is_wizard w p

unfoldable pub with_property_info : World → ℤ → ℤ → List ℕ → GivenProperty → Result (Tree × World) ErrorCode
with_property_info w p o name g =
    let x = number_of w.objects o in
    changes (set_info_raises w x (folded name) g.name)
    (may_write_property w p o name && may_give_cell w p (cell_numbered w o name) g.owner)
    (world_set_info w x (folded name) g.owner g.perms g.name)

-- a new name is for the definer alone
abbrev pub set_property_info : World → ℤ → List Tree → Result (Tree × World) ErrorCode
set_property_info w p (object o ∷ string name ∷ t ∷ []) = given (given_property t) (with_property_info w p o name)
set_property_info w p _ = Err TypeMismatch

-- the owner of a new property is the programmer, or whom a wizard names
unfoldable pub with_property : World → ℤ → ℤ → List ℕ → Tree → GivenProperty → Result (Tree × World) ErrorCode
with_property w p o name v g =
    let x = number_of w.objects o in
    changes (add_property_raises w x (folded name)) (may_write_object w p o && controls w p g.owner) (world_define w x name v g.owner g.perms)

abbrev pub add_property : World → ℤ → List Tree → Result (Tree × World) ErrorCode
add_property w p (object o ∷ string name ∷ v ∷ t ∷ []) = given (given_property t) (with_property w p o name v)
add_property w p _ = Err TypeMismatch

-- Properties read and set with the rights of a programmer.
use Rattle.std.specs.Prelude.{◌≡◌, ℕ, ℤ, List, Option, Some, None, true, if◌then◌else◌, is_some}
use Rattle.std.specs.List.{position}
use Rattle.std.specs.Option.{option_or, option_and_then}
use Rattle.moo_value.specs.declared.error_code.ErrorCode.{ErrorCode}
use Rattle.moo_value.specs.declared.error_code.ErrorCode.TheVariants.{Permission}
use Rattle.moo_value.specs.Compare.{folded}
use Rattle.moo_value.specs.Tree.{Tree}
use Rattle.moo_world_object.specs.BuiltIn.{built_in_of}
use Rattle.moo_world_object.specs.Cells.{Cell, is_named, cell_named}
use Rattle.moo_world_table.specs.World.{World, thing_of}
use Rattle.moo_world_table.specs.Properties.{read}
use Rattle.moo_world.specs.Calls.{number_of}
use Rattle.moo_world.specs.EditCalls.{set_raises, world_set}
use Rattle.moo_world.specs.NamedProperties.{get_raises, value_got}
use Rattle.moo_world.specs.Rights.{may_read_cell, may_write_cell, may_read_property, may_write_property}

-- a valid object's cell of a name, if no built-in property hides it and the programmer may read it
abbrev pub readable_cell : World → ℤ → ℕ → List ℕ → Option Cell
readable_cell w p x name =
    if is_some (built_in_of name) then None
    else if may_read_cell w p (cell_named (thing_of w.objects x).cells name) then cell_named (thing_of w.objects x).cells name
    else None

-- the value of a property that is not built in, if the programmer may read it
abbrev pub readable_at : World → ℤ → ℕ → List ℕ → Option Tree
readable_at w p x name = option_and_then (λ c. read w x name) (readable_cell w p x name)

abbrev pub readable_value : World → ℤ → Option ℕ → List ℕ → Option Tree
readable_value w p None name = None
readable_value w p (Some x) name = readable_at w p x name

-- reading the property raises nothing, the programmer has the right, and this is its value
pub record IsReadable (w : World) (p o : ℤ) (name : List ℕ) (v : Tree) : Type 0 where
  pub raises : get_raises w (number_of w.objects o) (folded name) ≡ None
  pub right : may_read_property w p o name ≡ true
  pub value : value_got w (number_of w.objects o) (folded name) ≡ Some v

-- the cell of a name is at this place, no built-in property hides it, and the programmer may set it
pub record IsWritable (w : World) (p : ℤ) (x : ℕ) (name : List ℕ) (place : ℕ) : Type 0 where
  pub at : position (is_named name) (thing_of w.objects x).cells ≡ Some place
  pub plain : built_in_of name ≡ None
  pub right : may_write_cell w p (cell_named (thing_of w.objects x).cells name) ≡ true

-- the error of setting a property with the rights of a programmer: that of setting it, and then that of a missing
-- right
abbrev pub set_by_raises : World → ℤ → ℤ → List ℕ → Tree → Option ErrorCode
set_by_raises w p o name v =
    option_or (set_raises w (number_of w.objects o) (folded name) v) (if may_write_property w p o name then None else Some Permission)

-- The programmer may set the property before and after, to each value. Then it makes no difference what was there.
pub record IsDropped (old new : World) (p o : ℤ) (name : List ℕ) : Type 0 where
  pub before : (v : Tree) → set_by_raises old p o name v ≡ None
  pub after : (v : Tree) → set_by_raises new p o name v ≡ None
  pub again : (v : Tree) → world_set new (number_of new.objects o) (folded name) v ≡ world_set old (number_of old.objects o) (folded name) v

-- Who may do what.
use Rattle.std.specs.Prelude.{ℕ, ℤ, List, Option, Some, None, Bool, false, ◌&&◌, ◌||◌, not, is_some}
use Rattle.std.specs.Option.{unwrap_or}
use Rattle.std.specs.Ordering.{int_eq}
use Rattle.moo_value.specs.Compare.{folded}
use Rattle.moo_world.specs.declared.rights.Action.{Action}
use Rattle.moo_world.specs.declared.rights.Action.TheVariants as action
use Rattle.moo_world_object.specs.BuiltIn.{built_in_of}
use Rattle.moo_world_object.specs.declared.built_in_property.BuiltInProperty.{BuiltInProperty}
use Rattle.moo_world_object.specs.declared.built_in_property.BuiltInProperty.TheVariants as property
use Rattle.moo_world_object.specs.Cells.{Cell}
use Rattle.moo_world_object.specs.Objects.{Object}
use Rattle.moo_world_object.specs.declared.verb.Verb.{Verb}
use Rattle.moo_world_table.specs.World.{World, nothing}
use Rattle.moo_world.specs.Numbered.{object_numbered, verb_numbered, cell_numbered}

abbrev pub is_wizard : World → ℤ → Bool
is_wizard w p = (unwrap_or (object_numbered w p) nothing).flags.wizard

-- what has this owner is the programmer's, or the programmer is a wizard
abbrev pub controls : World → ℤ → ℤ → Bool
controls w p owner = int_eq owner p || is_wizard w p

-- an object's owner and wizards own it
abbrev pub may_own : World → ℤ → ℤ → Bool
may_own w p o = is_some (object_numbered w o) && controls w p (unwrap_or (object_numbered w o) nothing).owner

-- an object is readable, writable and fertile with its flag, to its owner and to wizards
abbrev pub may_read_object : World → ℤ → ℤ → Bool
may_read_object w p o = (unwrap_or (object_numbered w o) nothing).flags.read || may_own w p o

abbrev pub may_write_object : World → ℤ → ℤ → Bool
may_write_object w p o = (unwrap_or (object_numbered w o) nothing).flags.write || may_own w p o

abbrev pub may_inherit_from : World → ℤ → ℤ → Bool
may_inherit_from w p o = (unwrap_or (object_numbered w o) nothing).flags.fertile || may_own w p o

-- a verb is readable with r, writable with w, to its owner and to wizards
abbrev pub may_read_this_verb : World → ℤ → Option Verb → Bool
may_read_this_verb w p None = false
may_read_this_verb w p (Some v) = v.perms.read || controls w p v.owner

abbrev pub may_write_this_verb : World → ℤ → Option Verb → Bool
may_write_this_verb w p None = false
may_write_this_verb w p (Some v) = v.perms.write || controls w p v.owner

-- a property is readable with r, writable with w, to its owner and to wizards
abbrev pub may_read_cell : World → ℤ → Option Cell → Bool
may_read_cell w p None = false
may_read_cell w p (Some c) = c.perms.read || controls w p c.owner

abbrev pub may_write_cell : World → ℤ → Option Cell → Bool
may_write_cell w p None = false
may_write_cell w p (Some c) = c.perms.write || controls w p c.owner

-- Everyone may read a built-in property. Wizards may set them, except the location and the contents, which are moved.
-- The object's owner may set the name, if the object is no player, and the flags r, w and f.
abbrev pub may_set_built_in : World → ℤ → Object → BuiltInProperty → Bool
may_set_built_in w p o property.Name = is_wizard w p || (int_eq o.owner p && not o.flags.player)
may_set_built_in w p o property.Owner = is_wizard w p
may_set_built_in w p o property.Location = false
may_set_built_in w p o property.Contents = false
may_set_built_in w p o property.Programmer = is_wizard w p
may_set_built_in w p o property.Wizard = is_wizard w p
may_set_built_in w p o property.Read = controls w p o.owner
may_set_built_in w p o property.Write = controls w p o.owner
may_set_built_in w p o property.Fertile = controls w p o.owner

abbrev pub may_read_property : World → ℤ → ℤ → List ℕ → Bool
may_read_property w p o name = is_some (object_numbered w o) && (is_some (built_in_of (folded name)) || may_read_cell w p (cell_numbered w o name))

abbrev pub may_write_named : World → ℤ → Object → Option BuiltInProperty → Option Cell → Bool
may_write_named w p o None cell = may_write_cell w p cell
may_write_named w p o (Some property) cell = may_set_built_in w p o property

abbrev pub may_write_property : World → ℤ → ℤ → List ℕ → Bool
may_write_property w p o name =
    is_some (object_numbered w o) && may_write_named w p (unwrap_or (object_numbered w o) nothing) (built_in_of (folded name)) (cell_numbered w o name)

-- who may do what
abbrev pub may : World → ℤ → Action → Bool
may w p (action.ReadProperty o name) = may_read_property w p o name.now
may w p (action.WriteProperty o name) = may_write_property w p o name.now
may w p (action.ReadObject o) = may_read_object w p o
may w p (action.WriteObject o) = may_write_object w p o
may w p (action.Fertile o) = may_inherit_from w p o
may w p (action.Own o) = may_own w p o
may w p (action.ReadVerb o i) = may_read_this_verb w p (verb_numbered w o i)
may w p (action.WriteVerb o i) = may_write_this_verb w p (verb_numbered w o i)

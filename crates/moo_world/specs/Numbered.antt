-- Objects by their numbers, and their verbs and cells.
use Rattle.std.specs.Prelude.{ℕ, ℤ, List, Option, slice_get}
use Rattle.std.specs.Option.{unwrap_or, option_and_then}
use Rattle.moo_value.specs.Compare.{folded}
use Rattle.moo_world_object.specs.Cells.{Cell, cell_named}
use Rattle.moo_world_object.specs.Objects.{Object}
use Rattle.moo_world_object.specs.declared.verb.Verb.{Verb}
use Rattle.moo_world_table.specs.World.{World, nothing, object_of}
use Rattle.moo_world.specs.Calls.{number_of}

-- the object of a number, if it is valid
abbrev pub object_numbered : World → ℤ → Option Object
object_numbered w o = option_and_then (object_of w.objects) (number_of w.objects o)

-- an object's verb at a place, which counts from 0
abbrev pub verb_numbered : World → ℤ → ℕ → Option Verb
verb_numbered w o i = slice_get (unwrap_or (object_numbered w o) nothing).verbs i

-- an object's cell of a name
abbrev pub cell_numbered : World → ℤ → List ℕ → Option Cell
cell_numbered w o name = cell_named (unwrap_or (object_numbered w o) nothing).cells (folded name)

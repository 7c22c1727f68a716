-- The world that records describe.
use Rattle.std.specs.Prelude.{◌≡◌, ℕ, ◌<◌, Option, Some, None, length, map, slice_index_or}
use Rattle.moo_syntax_ast.specs.Tree.{Block}
use Rattle.moo_world_object.specs.Flags.{flags_number}
use Rattle.moo_world_object.specs.Numbers.{prop_perms_number, preposition_specifier_number}
use Rattle.moo_world_object.specs.declared.verb.Verb.{Verb}
use Rattle.moo_world_object.specs.Cells.{Cell, key_of}
use Rattle.moo_world_object.specs.Objects.{Object}
use Rattle.moo_world_table.specs.World.{World, object_of, thing_of, definitions}
use Rattle.moo_dbtext_object.specs.Objects as recorded
use Rattle.moo_dbtext_restore.specs.Links.{IsTreeOf}
use Rattle.moo_dbtext_restore.specs.Records.{Records, record_at, program_at, parent_links, place_links}

-- a verb without its program, as it is recorded
abbrev pub recorded_verb : Verb → recorded.Verb
recorded_verb v = record {
  names = v.names;
  owner = v.owner;
  perms = recorded.verb_bits v.perms v.args.direct v.args.indirect;
  preposition = preposition_specifier_number v.args.preposition;
}

-- a cell without its definition, as it is recorded
abbrev pub recorded_cell : Cell → recorded.Cell
recorded_cell c = record { value = c.value; owner = c.owner; perms = prop_perms_number c.perms }

abbrev pub program_of : Verb → Option Block
program_of v = v.program

-- the record of object x describes this object
pub record SaysObject (r : Records) (x : ℕ) (b : recorded.Object) (o : Object) : Type 0 where
  pub name : o.name ≡ b.name
  pub owner : o.owner ≡ b.body.owner
  pub flags : flags_number o.flags ≡ b.body.flags
  pub verbs : map recorded_verb o.verbs ≡ b.body.verbs
  pub programs : (v : ℕ) → v < length o.verbs → slice_index_or (map program_of o.verbs) v None ≡ program_at r x v
  pub names : o.defined ≡ b.body.names
  pub cells : map recorded_cell o.cells ≡ b.body.cells

-- the record of a number describes the object that has it
abbrev pub SaysAt : Records → ℕ → Option recorded.Object → Option Object → Type 0
SaysAt r x None None = Unit {0}
SaysAt r x None (Some o) = ⊥
SaysAt r x (Some b) None = ⊥
SaysAt r x (Some b) (Some o) = SaysObject r x b o

-- The records describe this world: its objects, each with the cells for the definitions on it and its ancestors, its
-- trees and its players.
pub record Says (r : Records) (w : World) : Type 0 where
  pub many : length w.objects ≡ length r.objects
  pub objects : (x : ℕ) → SaysAt r x (record_at r x) (object_of w.objects x)
  pub definitions : (x : ℕ) → map key_of (thing_of w.objects x).cells ≡ definitions w.objects w.inheritance x
  pub parents : IsTreeOf (parent_links r) w.inheritance
  pub places : IsTreeOf (place_links r) w.containment
  pub players : w.players ≡ r.players

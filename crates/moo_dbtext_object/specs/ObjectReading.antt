-- Reading an object line by line.
use Rattle.std.specs.Prelude.{ℕ, ℤ, pos, negsuc, zero, suc, ◌/◌, ◌%◌, ◌==◌, ◌&&◌, not, nat_le, Bool, true, false, List, [], ◌∷◌, ◌++◌, map, length, codes, Option, Some, None, option_map, Result, Ok, Err, if◌then◌else◌}
use Rattle.std.specs.Str.{bytes_eq}
use Rattle.moo_value.specs.Tree.{Tree}
use Rattle.moo_value.specs.View.{tree}
use Rattle.moo_world_object.specs.Flags.{flags_number}
use Rattle.moo_dbtext_object.specs.Lines.{Line, ◌>>=◌, Sizes, number_of, bounded_count_of, small_of, text_of}
use Rattle.moo_dbtext_object.specs.Reading.{Partial, partial_of, begun, value_line}
use Rattle.moo_dbtext_object.specs.declared.fault.LineFault.{LineFault}
use Rattle.moo_dbtext_object.specs.declared.fault.LineFault.TheVariants.{BadNumber}
use Rattle.moo_dbtext_object.specs.Objects.{Verb, Body, Object, verb_bits, verb_of, cell_of}
use Rattle.moo_dbtext_object.specs.declared.field.VerbBits.{VerbBits}
use Rattle.moo_dbtext_object.specs.declared.object_reader.Awaited.{Awaited}
use Rattle.moo_dbtext_object.specs.declared.object_reader.Awaited.TheVariants as awaited
use Rattle.moo_dbtext_object.specs.declared.object_reader.VerbDraft.{VerbDraft}
use Rattle.moo_dbtext_object.specs.declared.object_reader.BodyDraft.{BodyDraft}
use Rattle.moo_dbtext_object.specs.declared.object_reader.ObjectReader.{ObjectReader}

-- a verb that is being read
pub record PartVerb : Type 0 where
  pub names : Option Line
  pub owner : ℤ
  pub perms : ℕ

-- an object that is being read: what its next line holds, its parts so far, how many verbs, names or cells follow the
-- one that is being read, and what was read of that one
pub record Draft : Type 0 where
  pub awaited : Awaited
  pub name : Option Line
  pub body : Body
  pub left : ℕ
  pub verb : PartVerb
  pub value : Partial
  pub cell : Option Tree
  pub cell_owner : ℤ

abbrev pub bits_of : VerbBits → ℕ
bits_of b = verb_bits b.perms b.direct b.indirect

abbrev pub part_verb_of : VerbDraft → PartVerb
part_verb_of v = record { names = v.names; owner = v.owner; perms = bits_of v.bits }

abbrev pub body_of : BodyDraft → Body
body_of b = record {
  flags = flags_number b.flags;
  owner = b.owner;
  location = b.location;
  contents = b.contents;
  next = b.next;
  parent = b.parent;
  child = b.child;
  sibling = b.sibling;
  verbs = map verb_of b.verbs.items;
  names = b.names.items;
  cells = map cell_of b.cells.items;
}

abbrev pub draft_of : ObjectReader → Draft
draft_of r = record {
  awaited = r.awaited;
  name = r.name;
  body = body_of r.body;
  left = r.left;
  verb = part_verb_of r.verb;
  value = partial_of r.value;
  cell = option_map tree r.cell;
  cell_owner = r.cell_owner;
}

abbrev pub empty_body : Body
empty_body = record { flags = 0; owner = pos 0; location = pos 0; contents = pos 0; next = pos 0; parent = pos 0; child = pos 0; sibling = pos 0; verbs = []; names = []; cells = [] }

abbrev pub fresh_draft : Draft
fresh_draft = record {
  awaited = awaited.Name;
  name = None;
  body = empty_body;
  left = 0;
  verb = record { names = None; owner = pos 0; perms = 0 };
  value = begun;
  cell = None;
  cell_owner = pos 0;
}

-- ---- single lines

abbrev pub is_verb_bits : ℕ → Bool
is_verb_bits n = not (n / 16 % 4 == 3) && not (n / 64 == 3)

abbrev pub checked_bits : ℕ → Result ℕ LineFault
checked_bits n = if is_verb_bits n then Ok n else Err BadNumber

unfoldable pub verb_bits_of : Line → Result ℕ LineFault
verb_bits_of line = small_of 255 line >>= checked_bits

abbrev pub checked_preposition : ℤ → Result ℤ LineFault
checked_preposition (pos n) = if nat_le n 14 then Ok (pos n) else Err BadNumber
checked_preposition (negsuc n) = if nat_le n 1 then Ok (negsuc n) else Err BadNumber

unfoldable pub preposition_of : Line → Result ℤ LineFault
preposition_of line = number_of line >>= checked_preposition

-- ---- what a line makes of an object

abbrev pub next_field : Draft → Awaited → Body → Result (Draft × Option Object) LineFault
next_field d next b = Ok (record d { awaited = next; body = b }, None)

-- n verbs, names or cells are still to come
abbrev pub after_verb : Draft → Body → ℕ → Draft
after_verb d b zero = record d { awaited = awaited.NameCount; body = b }
after_verb d b (suc n) = record d { awaited = awaited.VerbNames; body = b; left = n }

abbrev pub after_name : Draft → Body → ℕ → Draft
after_name d b zero = record d { awaited = awaited.CellCount; body = b }
after_name d b (suc n) = record d { awaited = awaited.PropertyName; body = b; left = n }

-- with no cell to come the object is whole
abbrev pub named_object : Body → Line → Object
named_object b name = record { name = name; body = b }

abbrev pub after_cell : Draft → Body → ℕ → Draft × Option Object
after_cell d b zero = (fresh_draft, option_map (named_object b) d.name)
after_cell d b (suc n) = (record d { awaited = awaited.Value; body = b; left = n }, None)

-- what a draft gives: the object, if it is whole, and then the next one begins
abbrev pub given_by : Bool → Draft → Draft × Option Object
given_by true d = (fresh_draft, option_map (named_object d.body) d.name)
given_by false d = (d, None)

-- the verb that was read, with its preposition
abbrev pub verb_made : PartVerb → ℤ → Line → Verb
verb_made v z names = record { names = names; owner = v.owner; perms = v.perms; preposition = z }

abbrev pub verbs_made : Option Line → PartVerb → ℤ → List Verb
verbs_made None v z = []
verbs_made (Some names) v z = verb_made v z names ∷ []

abbrev pub after_value_line : Draft → Partial × Option Tree → Draft
after_value_line d (p, None) = record d { awaited = awaited.Inside; value = p }
after_value_line d (p, Some t) = record d { awaited = awaited.CellOwner; cell = Some t; value = p }

abbrev pub value_line_step : Sizes → Draft → Line → Result Draft LineFault
value_line_step s d line = value_line s d.value line >>= λ r. Ok (after_value_line d r)

-- only an inherited property may be clear
abbrev pub is_clear : Body → Line → Bool
is_clear b line = nat_le (length b.names) (length b.cells) && bytes_eq line (codes "5")

unfoldable pub object_step : Sizes → Awaited → Draft → Line → Result (Draft × Option Object) LineFault
object_step s awaited.Name d line = text_of s line >>= λ x. Ok (record d { awaited = awaited.Note; name = Some x }, None)
object_step s awaited.Note d line = text_of s line >>= λ x. Ok (record d { awaited = awaited.Flags }, None)
object_step s awaited.Flags d line = small_of 255 line >>= λ n. next_field d awaited.Owner (record d.body { flags = n })
object_step s awaited.Owner d line = number_of line >>= λ z. next_field d awaited.Location (record d.body { owner = z })
object_step s awaited.Location d line = number_of line >>= λ z. next_field d awaited.Contents (record d.body { location = z })
object_step s awaited.Contents d line = number_of line >>= λ z. next_field d awaited.Next (record d.body { contents = z })
object_step s awaited.Next d line = number_of line >>= λ z. next_field d awaited.Parent (record d.body { next = z })
object_step s awaited.Parent d line = number_of line >>= λ z. next_field d awaited.Child (record d.body { parent = z })
object_step s awaited.Child d line = number_of line >>= λ z. next_field d awaited.Sibling (record d.body { child = z })
object_step s awaited.Sibling d line = number_of line >>= λ z. next_field d awaited.VerbCount (record d.body { sibling = z })
object_step s awaited.VerbCount d line = bounded_count_of s line >>= λ n. Ok (after_verb d d.body n, None)
object_step s awaited.VerbNames d line = text_of s line >>= λ x. Ok (record d { awaited = awaited.VerbOwner; verb = record d.verb { names = Some x } }, None)
object_step s awaited.VerbOwner d line = number_of line >>= λ z. Ok (record d { awaited = awaited.VerbBits; verb = record d.verb { owner = z } }, None)
object_step s awaited.VerbBits d line = verb_bits_of line >>= λ n. Ok (record d { awaited = awaited.VerbPreposition; verb = record d.verb { perms = n } }, None)
object_step s awaited.VerbPreposition d line =
    preposition_of line >>= λ z. Ok (after_verb (record d { verb = record d.verb { names = None } }) (record d.body { verbs = d.body.verbs ++ verbs_made d.verb.names d.verb z }) d.left, None)
object_step s awaited.NameCount d line = bounded_count_of s line >>= λ n. Ok (after_name d d.body n, None)
object_step s awaited.PropertyName d line = text_of s line >>= λ x. Ok (after_name d (record d.body { names = d.body.names ++ x ∷ [] }) d.left, None)
object_step s awaited.CellCount d line = bounded_count_of s line >>= λ n. Ok (after_cell d d.body n)
object_step s awaited.Value d line =
    if is_clear d.body line then Ok (record d { awaited = awaited.CellOwner; cell = None }, None)
    else (value_line_step s d line >>= λ e. Ok (e, None))
object_step s awaited.Inside d line = value_line_step s d line >>= λ e. Ok (e, None)
object_step s awaited.CellOwner d line = number_of line >>= λ z. Ok (record d { awaited = awaited.CellPerms; cell_owner = z }, None)
object_step s awaited.CellPerms d line =
    small_of 7 line >>= λ n. Ok (after_cell (record d { cell = None }) (record d.body { cells = d.body.cells ++ record { value = d.cell; owner = d.cell_owner; perms = n } ∷ [] }) d.left)

-- the next line of an object
abbrev pub object_line : Sizes → Draft → Line → Result (Draft × Option Object) LineFault
object_line s d line = object_step s d.awaited d line

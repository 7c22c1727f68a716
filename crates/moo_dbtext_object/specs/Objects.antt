-- The contents of an object of a database text, and its lines.
use Rattle.std.specs.Prelude.{◌≡◌, ◌≢◌, ℕ, ℤ, pos, negsuc, ◌+◌, ◌*◌, ◌/◌, ◌%◌, ◌≤◌, List, [], ◌∷◌, ◌++◌, map, length, codes, FitsSigned, Option, Some, None, option_map}
use Rattle.std.specs.List.{flat_map, AllByRecursion}
use Rattle.std.specs.Int.{w32}
use Rattle.std.specs.Fmt.{signed_decimal}
use Rattle.moo_value.specs.Tree.{Tree}
use Rattle.moo_value.specs.View.{tree}
use Rattle.moo_world_object.specs.Flags.{flags_number}
use Rattle.moo_world_object.specs.Numbers.{prop_perms_number, verb_perms_number, object_specifier_number, preposition_specifier_number}
use Rattle.moo_world_object.specs.declared.verb.VerbPerms.{VerbPerms}
use Rattle.moo_world_object.specs.declared.verb_args.ObjectSpecifier.{ObjectSpecifier}
use Rattle.moo_dbtext_object.specs.Lines.{Line, Sizes, IsStringOf, IsCountOf, count_line}
use Rattle.moo_dbtext_object.specs.ValueLines.{value_lines, IsWritable, KeepsLimits}
use Rattle.moo_dbtext_object.specs.declared.object_record.VerbRecord.{VerbRecord}
use Rattle.moo_dbtext_object.specs.declared.object_record.PropertyRecord.{PropertyRecord}
use Rattle.moo_dbtext_object.specs.declared.object_record.ObjectRecord.{ObjectRecord}

-- a verb: its permissions and the specifiers of its objects are one number
pub record Verb : Type 0 where
  pub names : Line
  pub owner : ℤ
  pub perms : ℕ
  pub preposition : ℤ

-- an object's cell for a property: a value, or none if the cell is clear
pub record Cell : Type 0 where
  pub value : Option Tree
  pub owner : ℤ
  pub perms : ℕ

-- an object without its name
pub record Body : Type 0 where
  pub flags : ℕ
  pub owner : ℤ
  pub location : ℤ
  pub contents : ℤ
  pub next : ℤ
  pub parent : ℤ
  pub child : ℤ
  pub sibling : ℤ
  pub verbs : List Verb
  pub names : List Line
  pub cells : List Cell

pub record Object : Type 0 where
  pub name : Line
  pub body : Body

-- ---- the program's records

-- the permissions, then at bits 4 and 5 the direct object, and at bits 6 and 7 the indirect one
abbrev pub verb_bits : VerbPerms → ObjectSpecifier → ObjectSpecifier → ℕ
verb_bits perms direct indirect = verb_perms_number perms + 16 * object_specifier_number direct + 64 * object_specifier_number indirect

abbrev pub verb_of : VerbRecord → Verb
verb_of v = record {
  names = v.names;
  owner = v.owner;
  perms = verb_bits v.perms v.args.direct v.args.indirect;
  preposition = preposition_specifier_number v.args.preposition;
}

abbrev pub cell_of : PropertyRecord → Cell
cell_of p = record { value = option_map tree p.value; owner = p.owner; perms = prop_perms_number p.perms }

abbrev pub object_of : ObjectRecord → Object
object_of o = record {
  name = o.name;
  body = record {
    flags = flags_number o.flags;
    owner = o.owner;
    location = o.location;
    contents = o.contents;
    next = o.next;
    parent = o.parent;
    child = o.child;
    sibling = o.sibling;
    verbs = map verb_of o.verbs.items;
    names = o.names.items;
    cells = map cell_of o.cells.items;
  };
}

-- ---- lines

abbrev pub verb_lines : Verb → List Line
verb_lines v = v.names ∷ signed_decimal v.owner ∷ count_line v.perms ∷ signed_decimal v.preposition ∷ []

-- the lines of a value, or the type number that marks a clear cell
abbrev pub cell_value_lines : Option Tree → List Line
cell_value_lines None = codes "5" ∷ []
cell_value_lines (Some t) = value_lines t

abbrev pub cell_lines : Cell → List Line
cell_lines c = cell_value_lines c.value ++ signed_decimal c.owner ∷ count_line c.perms ∷ []

abbrev pub number_lines : Body → List Line
number_lines b =
    count_line b.flags ∷ signed_decimal b.owner ∷ signed_decimal b.location ∷ signed_decimal b.contents ∷ signed_decimal b.next ∷ signed_decimal b.parent
    ∷ signed_decimal b.child ∷ signed_decimal b.sibling ∷ []

-- An object's lines after its header. The note is a string that is read and not kept.
abbrev pub object_lines : Object → Line → List Line
object_lines o note =
    o.name ∷ note ∷ (number_lines o.body ++ count_line (length o.body.verbs) ∷ (flat_map verb_lines o.body.verbs
    ++ count_line (length o.body.names) ∷ (o.body.names ++ count_line (length o.body.cells) ∷ flat_map cell_lines o.body.cells)))

-- ---- what has lines

-- eight bits, in which neither object's specifier is 3
pub record IsVerbBits (n : ℕ) : Type 0 where
  pub byte : n ≤ 255
  pub direct : n / 16 % 4 ≢ 3
  pub indirect : n / 64 ≢ 3

-- -2 for any, -1 for none, or the number of a preposition
abbrev pub IsPreposition : ℤ → Type 0
IsPreposition (pos n) = n ≤ 14
IsPreposition (negsuc n) = n ≤ 1

pub record IsVerb (s : Sizes) (v : Verb) : Type 0 where
  pub names : IsStringOf s v.names
  pub owner : FitsSigned w32 v.owner
  pub perms : IsVerbBits v.perms
  pub preposition : IsPreposition v.preposition

abbrev pub IsCellValue : Sizes → Option Tree → Type 0
IsCellValue s None = Unit {0}
IsCellValue s (Some t) = IsWritable t × KeepsLimits s t

pub record IsCell (s : Sizes) (c : Cell) : Type 0 where
  pub value : IsCellValue s c.value
  pub owner : FitsSigned w32 c.owner
  pub perms : c.perms ≤ 7

-- from place i on, only cells past those of the object's own definitions are clear
abbrev pub OwnHaveValues : ℕ → ℕ → List Cell → Type 0
OwnHaveValues own i [] = Unit {0}
OwnHaveValues own i (c ∷ cs) = (c.value ≡ None → own ≤ i) × OwnHaveValues own (i + 1) cs

pub record AreNumbers (b : Body) : Type 0 where
  pub flags : b.flags ≤ 255
  pub owner : FitsSigned w32 b.owner
  pub location : FitsSigned w32 b.location
  pub contents : FitsSigned w32 b.contents
  pub next : FitsSigned w32 b.next
  pub parent : FitsSigned w32 b.parent
  pub child : FitsSigned w32 b.child
  pub sibling : FitsSigned w32 b.sibling

-- an object that has lines: with size limits, or without
pub record IsObject (s : Sizes) (o : Object) : Type 0 where
  pub name : IsStringOf s o.name
  pub numbers : AreNumbers o.body
  pub verbs : AllByRecursion (IsVerb s) o.body.verbs
  pub names : AllByRecursion (IsStringOf s) o.body.names
  pub cells : AllByRecursion (IsCell s) o.body.cells
  pub own : OwnHaveValues (length o.body.names) 0 o.body.cells
  pub verb_count : IsCountOf s (length o.body.verbs)
  pub name_count : IsCountOf s (length o.body.names)
  pub cell_count : IsCountOf s (length o.body.cells)

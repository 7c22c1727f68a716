-- The contents of a database text line by line, and its lines.
use Rattle.std.specs.Prelude.{IsSomeAnd, is_some, count_by, ◌≡◌, ℕ, ℤ, ◌+◌, ◌<◌, ◌≤◌, List, [], ◌∷◌, ◌++◌, map, length, codes, FitsSigned, Option, Some, None, option_map}
use Rattle.std.specs.List.{flat_map, sum_by, AllByRecursion}
use Rattle.std.specs.Int.{w32}
use Rattle.std.specs.Fmt.{decimal, signed_decimal}
use Rattle.moo_dbtext_object.specs.Lines.{Line, Sizes, unlimited, limited, most_records, IsStringOf, IsCountOf, count_line, unlines}
use Rattle.moo_dbtext_object.specs.Objects.{Object, object_of, object_lines, IsObject}
use Rattle.moo_dbtext_record.specs.Programs.{Table, table_of, blank_table, Program, program_lines, Fills, IsProgramText}
use Rattle.moo_dbtext_record.specs.declared.dump.Form.{Form}
use Rattle.moo_dbtext_record.specs.declared.dump.Form.TheVariants as form
use Rattle.moo_dbtext_record.specs.declared.dump.Connection.{Connection}
use Rattle.moo_dbtext_record.specs.declared.dump.Dump.{Dump}

-- a player who was connected, and the listener if the section has listeners
pub record Link : Type 0 where
  pub who : ℤ
  pub listener : Option ℤ

-- the contents of a text line by line
pub record Text : Type 0 where
  pub version : ℕ
  pub players : List ℤ
  pub objects : List (Option Object)
  pub programs : Table
  pub form : Form
  pub links : List Link

-- what a text has besides, which is read and not kept: a number, a string for each object, and the order of the
-- programs
pub record Slack : Type 0 where
  pub unused : ℤ
  pub notes : ℕ → Line
  pub programs : List Program

abbrev pub link_of : Connection → Link
link_of c = record { who = c.who; listener = c.listener }

abbrev pub text_of : Dump → Text
text_of d = record {
  version = d.version;
  players = d.players.items;
  objects = map (option_map object_of) d.objects.items;
  programs = table_of d.programs;
  form = d.form;
  links = map link_of d.connections.items;
}

-- ---- lines

abbrev pub header_front : Line
header_front = codes "** LambdaMOO Database, Format Version "

abbrev pub header_line : ℕ → Line
header_line version = header_front ++ count_line version ++ codes " **"

abbrev pub live_line : ℕ → Line
live_line n = codes "#" ++ decimal n

abbrev pub recycled_line : ℕ → Line
recycled_line n = codes "#" ++ decimal n ++ codes " recycled"

-- the lines of the objects from number n on
abbrev pub objects_lines : ℕ → List (Option Object) → (ℕ → Line) → List Line
objects_lines n [] notes = []
objects_lines n (None ∷ os) notes = recycled_line n ∷ objects_lines (n + 1) os notes
objects_lines n (Some o ∷ os) notes = live_line n ∷ (object_lines o (notes n) ++ objects_lines (n + 1) os notes)

abbrev pub listener_part : Option ℤ → Line
listener_part None = []
listener_part (Some z) = codes " " ++ signed_decimal z

abbrev pub link_line : Link → Line
link_line l = signed_decimal l.who ++ listener_part l.listener

-- the first line of the section of n connections
abbrev pub connections_line : Form → ℕ → Line
connections_line form.Absent n = []
connections_line form.Plain n = count_line n ++ codes " active connections"
connections_line form.WithListeners n = count_line n ++ codes " active connections with listeners"

abbrev pub connections_lines : Form → List Link → List Line
connections_lines form.Absent ls = []
connections_lines form.Plain ls = connections_line form.Plain (length ls) ∷ map link_line ls
connections_lines form.WithListeners ls = connections_line form.WithListeners (length ls) ∷ map link_line ls

abbrev pub tasks_lines : List Line → List Line
tasks_lines more = codes "0 clocks" ∷ codes "0 queued tasks" ∷ codes "0 suspended tasks" ∷ more

-- the lines of a database text
abbrev pub text_lines : Text → Slack → List Line
text_lines t k =
    header_line t.version ∷ count_line (length t.objects) ∷ count_line (length k.programs) ∷ signed_decimal k.unused ∷ count_line (length t.players)
    ∷ (map signed_decimal t.players ++ (objects_lines 0 t.objects k.notes ++ (flat_map program_lines k.programs ++ tasks_lines (connections_lines t.form t.links))))

-- ---- what has lines

abbrev pub IsEntry : Sizes → Option Object → Type 0
IsEntry s None = Unit {0}
IsEntry s (Some o) = IsObject s o

-- a listener is given exactly in the form with listeners
abbrev pub IsLink : Form → Link → Type 0
IsLink form.Absent l = ⊥
IsLink form.Plain l = FitsSigned w32 l.who × (l.listener ≡ None)
IsLink form.WithListeners l = FitsSigned w32 l.who × IsSomeAnd l.listener (FitsSigned w32)

-- only versions 1 to 3 may leave out the last section
abbrev pub MayHave : ℕ → Form → Type 0
MayHave version form.Absent = version < 4
MayHave version form.Plain = Unit {0}
MayHave version form.WithListeners = Unit {0}

pub record IsVersion (v : ℕ) : Type 0 where
  pub low : 1 ≤ v
  pub high : v ≤ 4

-- what may be written as a database text: with size limits, or without
pub record IsWritten (s : Sizes) (t : Text) (k : Slack) : Type 0 where
  pub version : IsVersion t.version
  pub unused : FitsSigned w32 k.unused
  pub players : AllByRecursion (FitsSigned w32) t.players
  pub player_count : IsCountOf s (length t.players)
  pub objects : AllByRecursion (IsEntry s) t.objects
  pub notes : (n : ℕ) → IsStringOf s (k.notes n)
  pub object_count : IsCountOf s (length t.objects)
  pub programs : AllByRecursion (IsProgramText s) k.programs
  pub fills : Fills (blank_table t.objects) k.programs t.programs
  pub program_count : IsCountOf s (length k.programs)
  pub form : MayHave t.version t.form
  pub links : AllByRecursion (IsLink t.form) t.links
  pub link_count : IsCountOf s (length t.links)

-- The bytes spell this text, whatever its sizes are.
pub record Spells (bytes : List ℕ) (t : Text) : Type 0 where
  pub slack : Slack
  pub written : IsWritten unlimited t slack
  pub lines : bytes ≡ unlines (text_lines t slack)

-- The bytes spell this text, within the size limits.
pub record SpellsWithin (bytes : List ℕ) (t : Text) : Type 0 where
  pub slack : Slack
  pub written : IsWritten limited t slack
  pub lines : bytes ≡ unlines (text_lines t slack)

-- its objects, and the numbers of its objects, players and programs, are within the size limits
pub record HasRecordsWithin (t : Text) : Type 0 where
  pub objects : AllByRecursion (IsEntry limited) t.objects
  pub object_count : length t.objects ≤ most_records
  pub player_count : length t.players ≤ most_records
  pub program_count : sum_by (count_by is_some) t.programs ≤ most_records

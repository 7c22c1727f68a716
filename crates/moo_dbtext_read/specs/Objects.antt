-- The faults that are reported of objects.
use Rattle.std.specs.Prelude.{◌≡◌, ℕ, ℤ, ◌+◌, true, Option, Some, None, List, [], take, length}
use Rattle.moo_dbtext_object.specs.Lines.{limited}
use Rattle.moo_dbtext_object.specs.Objects.{Object, object_lines}
use Rattle.moo_dbtext_record.specs.Texts.{objects_lines}
use Rattle.moo_dbtext_record.specs.Placing.{BeginsWithObjects}
use Rattle.moo_dbtext_record.specs.Writing.{no_notes}
use Rattle.moo_dbtext_record.specs.Answer.{Stand}
use Rattle.moo_dbtext_record.specs.Sparing.{has_objects}
use Rattle.moo_dbtext_restore.specs.First.{IsFirst}
use Rattle.moo_dbtext_restore.specs.Records.{Records}
use Rattle.moo_dbtext_restore.specs.Faults.{IsWellPlaced, HasItsCells}

-- how many lines an entry has, with its header
abbrev pub entry_length : Option Object → ℕ
entry_length None = 1
entry_length (Some o) = length (object_lines o []) + 1

-- the number of the line that names object x, in a text with these players and these objects
abbrev pub line_of_object : List ℤ → List (Option Object) → ℕ → ℕ
line_of_object players objects x = 6 + length players + length (objects_lines 0 (take x objects) no_notes)

-- records that have objects only
abbrev pub of_objects : List (Option Object) → Records
of_objects objects = record { objects = objects; programs = []; players = [] }

-- The bytes begin with the lines of a text up to its last object, among its objects x is at fault, and its line is
-- line n. No bytes after the objects change that.
pub record HasObjectFault (Fault : Records → ℕ → Type 0) (bytes : List ℕ) (n x : ℕ) : Type 0 where
  pub players : List ℤ
  pub objects : List (Option Object)
  pub begins : BeginsWithObjects bytes players objects
  pub fault : Fault (of_objects objects) x
  pub line : n ≡ line_of_object players objects x

-- none of these objects is at fault
pub record AreFaultless (objects : List (Option Object)) : Type 0 where
  pub placed : IsFirst (IsWellPlaced (of_objects objects)) (length objects) None
  pub counted : IsFirst (HasItsCells (of_objects objects)) (length objects) None

-- If all objects have come with lines of the bytes, none is at fault.
abbrev pub HasNoObjectFault : List ℕ → Type 0
HasNoObjectFault bytes = (n : ℕ) (h : Stand limited n bytes) → has_objects h.state.progress.section ≡ true → AreFaultless h.state.progress.text.objects

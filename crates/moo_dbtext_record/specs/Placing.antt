-- A text up to its last object.
use Rattle.std.specs.Prelude.{◌≡◌, ℕ, ℤ, true, List, ◌∷◌, ◌++◌, map, length, Option}
use Rattle.std.specs.Fmt.{signed_decimal}
use Rattle.moo_dbtext_object.specs.Lines.{Line, limited, count_line, unlines}
use Rattle.moo_dbtext_object.specs.Objects.{Object}
use Rattle.moo_dbtext_record.specs.Texts.{Text, header_line, objects_lines, Spells}
use Rattle.moo_dbtext_record.specs.Answer.{Stand}
use Rattle.moo_dbtext_record.specs.Sparing.{has_objects}

-- The lines of a text up to its last object, with what is read there and not kept: the number of programs, a number, a string
-- for each object.
abbrev pub lines_to_objects : ℕ → ℕ → ℤ → (ℕ → Line) → List ℤ → List (Option Object) → List Line
lines_to_objects version programs unused notes players objects =
    header_line version ∷ count_line (length objects) ∷ count_line programs ∷ signed_decimal unused ∷ count_line (length players) ∷ (map signed_decimal players ++ objects_lines 0 objects notes)

-- The bytes begin with the lines of a text up to its last object. These lines are right where they are, and hold
-- these players and these objects. Each text that begins with these bytes has them.
pub record BeginsWithObjects (bytes : List ℕ) (players : List ℤ) (objects : List (Option Object)) : Type 0 where
  pub version : ℕ
  pub programs : ℕ
  pub unused : ℤ
  pub notes : ℕ → Line
  pub after : List ℕ
  pub whole : bytes ≡ unlines (lines_to_objects version programs unused notes players objects) ++ after
  pub lines : ℕ
  pub stand : Stand limited lines bytes
  pub all : has_objects stand.state.progress.section ≡ true
  pub players_come : stand.state.progress.text.players ≡ players
  pub objects_come : stand.state.progress.text.objects ≡ objects
  pub players_there : (more : List ℕ) (t : Text) → Spells (bytes ++ more) t → t.players ≡ players
  pub objects_there : (more : List ℕ) (t : Text) → Spells (bytes ++ more) t → t.objects ≡ objects

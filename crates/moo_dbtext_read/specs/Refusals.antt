-- Why bytes are refused.
use Rattle.std.specs.Prelude.{◌≡◌, ℕ, List, ◌++◌}
use Rattle.moo_dbtext_object.specs.Lines.{limited}
use Rattle.moo_dbtext_record.specs.Texts.{Text, Spells, SpellsWithin}
use Rattle.moo_dbtext_record.specs.Answer.{front_lines, Stand, StandWithoutLimits}
use Rattle.moo_dbtext_record.specs.declared.fault.DbFault.{DbFault}
use Rattle.moo_dbtext_record.specs.declared.fault.DbFaultKind.TheVariants as kind
use Rattle.moo_dbtext_record.specs.declared.fault.ProgramFault.{ProgramFault}
use Rattle.moo_dbtext_read.specs.Faults.{IsProgramFault, IsOfLine, IsOfLimits}
use Rattle.moo_dbtext_restore.specs.Faults.{IsHierarchyFault, IsCountFault}
use Rattle.moo_dbtext_read.specs.Saved.{Saved, SpellsSaved, SpellsSavedWithin}
use Rattle.moo_dbtext_read.specs.Objects.{HasObjectFault}

-- The bytes of a whole text are refused, and this is reported.
pub record Refuses (bytes : List ℕ) (e : DbFault) : Type 0 where
  -- a saved world that they spell exceeds a limit, or memory ran out
  pub only : (s : Saved) → SpellsSaved bytes s → IsOfLimits e.kind
  -- if they spell one within the limits, memory ran out
  pub within : (s : Saved) → SpellsSavedWithin bytes s → e.kind ≡ kind.Memory
  -- no text begins with the lines up to the reported one
  pub place : IsOfLine e.kind → (more : List ℕ) (t : Text) → ¬ (Spells (front_lines e.line bytes ++ more) t)
  -- if a program is reported, the bytes have it there, and its source is no program
  pub program : (object verb : ℕ) (fault : ProgramFault) → e.kind ≡ kind.Program object verb fault → IsProgramFault bytes e.line object verb fault
  -- if an object's place is reported, it is the first that isn't well placed
  pub hierarchy : (x : ℕ) → e.kind ≡ kind.BadHierarchy x → HasObjectFault IsHierarchyFault bytes e.line x
  -- if an object's cells are reported, all are well placed, and it is the first that has more or fewer cells than
  -- definitions
  pub count : (x : ℕ) → e.kind ≡ kind.PropertyCount x → HasObjectFault IsCountFault bytes e.line x
  -- if a size is reported, no text within the limits begins with the lines up to it
  pub size : e.kind ≡ kind.TooLarge → (more : List ℕ) (t : Text) → ¬ (SpellsWithin (front_lines e.line bytes ++ more) t)
  -- a size is reported only of a line that would be right without limits
  pub large : e.kind ≡ kind.TooLarge → StandWithoutLimits e.line bytes
  -- and that is wrong with them
  pub past : e.kind ≡ kind.TooLarge → ¬ (Stand limited e.line bytes)

-- The answers of two readers of equal bytes, one of worlds and one of refused programs.
use Rattle.std.specs.Prelude.{◌≡◌, ◌⊎◌, ℕ, false, List, ◌++◌, Option, Some, None, Err, IfErr}
use Rattle.moo_dbtext_record.specs.declared.fault.DbFault.{DbFault}
use Rattle.moo_dbtext_record.specs.declared.fault.DbFaultKind.TheVariants as kind
use Rattle.moo_dbtext_read.specs.Loading.{LoadAnswers}
use Rattle.moo_dbtext_read.specs.Feeding.{HasFed, IsWell}
use Rattle.moo_dbtext_read.specs.declared.db_reader.DbReader.{DbReader}
use Rattle.moo_cli_check.specs.Survey.{IsSurvey}
use Rattle.moo_cli_check.specs.Reading.{IsAfter}
use Rattle.moo_cli_check.specs.Shown.{is_of_program, AreRefusedForProgram}
use Rattle.moo_cli_check.specs.declared.readers.Readers.{Readers}
use Rattle.moo_cli_check.specs.declared.readers.Halt.{Halt}
use Rattle.moo_cli_check.specs.declared.readers.Halt.TheVariants as halt
use Rattle.moo_cli_check.specs.declared.readers.Answer.{Answer}
use Rattle.moo_cli_check.specs.declared.readers.Answer.TheVariants as answer

-- both have taken these bytes
pub record HaveFed (r : Readers) (bytes : List ℕ) : Type 0 where
  pub check : HasFed r.check bytes
  pub survey : IsAfter r.survey bytes

-- no fault has come yet, or the bytes are refused for a program, however they go on
abbrev pub GoesOn : DbReader → List ℕ → Type 0
GoesOn r bytes = IsWell r ⊎ ((more : List ℕ) → AreRefusedForProgram (bytes ++ more))

-- the bytes are refused for a program, and this is all that is reported of them
pub record AreSurveyed (bytes : List ℕ) (faults : List DbFault) (end : Option DbFault) : Type 0 where
  pub check : AreRefusedForProgram bytes
  pub survey : IsSurvey bytes faults end

abbrev pub LacksMemory : Option DbFault → Type 0
LacksMemory None = ⊥
LacksMemory (Some e) = e.kind ≡ kind.Memory

-- the reason why nothing more is read, however the bytes go on
abbrev pub IsHalted : List ℕ → List DbFault → Halt → Type 0
IsHalted bytes faults (halt.Refused e) = (is_of_program e.kind ≡ false) × ((more : List ℕ) → LoadAnswers (Err e) (bytes ++ more))
IsHalted bytes faults (halt.Ended e) = (e.kind ≡ kind.Memory) ⊎ ((more : List ℕ) → AreSurveyed (bytes ++ more) faults (Some e))

-- the answer for the whole bytes
abbrev pub Answers : Answer → List ℕ → Type 0
Answers (answer.Checked r) bytes = LoadAnswers r bytes × IfErr r (λ e. is_of_program e.kind ≡ false)
Answers (answer.Surveyed faults end) bytes = LacksMemory end ⊎ AreSurveyed bytes faults.items end

-- The output of `moo check --all` for a database.
use Rattle.std.specs.Prelude.{◌≡◌, ◌⊎◌, ℕ, Bool, true, false, List, ◌++◌, Err, codes, length, Option, Some, None, IfSome}
use Rattle.std.specs.Fmt.{decimal}
use Rattle.std.specs.Io.KnownBytes.{Appends}
use Rattle.std.specs.List.{flat_map}
use Rattle.moo_dbtext_record.specs.declared.fault.DbFault.{DbFault}
use Rattle.moo_dbtext_record.specs.declared.fault.DbFaultKind.{DbFaultKind}
use Rattle.moo_dbtext_record.specs.declared.fault.DbFaultKind.TheVariants as kind
use Rattle.moo_dbtext_read.specs.Saved.{Saved, SpellsSavedWithin}
use Rattle.moo_dbtext_read.specs.Loading.{LoadAnswers}
use Rattle.moo_cli_io.specs.Told.{fault_line}
use Rattle.moo_cli_io.specs.GivingUp.{IsGivenUp}
use Rattle.moo_cli_check.specs.Database.{counts_line, HasShown, HasTold}
use Rattle.moo_cli_check.specs.Survey.{IsSurvey}

-- the fault is of a program
abbrev pub is_of_program : DbFaultKind → Bool
is_of_program kind.BadHeader = false
is_of_program (kind.Version n) = false
is_of_program kind.BadNumber = false
is_of_program kind.Truncated = false
is_of_program kind.BadString = false
is_of_program kind.FloatValue = false
is_of_program kind.BadType = false
is_of_program kind.BadObjectLine = false
is_of_program (kind.BadHierarchy x) = false
is_of_program (kind.PropertyCount x) = false
is_of_program kind.BadProgramLine = false
is_of_program (kind.Program object verb f) = true
is_of_program kind.PendingTasks = false
is_of_program kind.BadConnections = false
is_of_program kind.TrailingBytes = false
is_of_program kind.TooLarge = false
is_of_program kind.Memory = false

-- a reader of worlds refuses the bytes for a program: their objects, if all have come, are not at fault
pub record AreRefusedForProgram (bytes : List ℕ) : Type 0 where
  pub fault : DbFault
  pub program : is_of_program fault.kind ≡ true
  pub answer : LoadAnswers (Err fault) bytes

-- a line for each refused program, and then how many they are, or the line of the fault that ends it
abbrev pub survey_text : List DbFault → Option DbFault → List ℕ
survey_text faults None = flat_map fault_line faults ++ (decimal (length faults) ++ codes " programs refused\n")
survey_text faults (Some e) = flat_map fault_line faults ++ fault_line e

-- The bytes are refused for a program, they spell no saved world within the limits, and the output grew by all that
-- is reported of them.
pub record HasToldAll (bytes : List ℕ) (old new : Option (List ℕ)) : Type 0 where
  pub check : AreRefusedForProgram bytes
  pub none : (s : Saved) → ¬ (SpellsSavedWithin bytes s)
  pub faults : List DbFault
  pub end : Option DbFault
  pub survey : IsSurvey bytes faults end
  pub told : Appends old new (survey_text faults end)

-- The output grew by the line of a fault that is of no program, as `moo check` reports it.
pub record HasToldOther (bytes : List ℕ) (old new : Option (List ℕ)) : Type 0 where
  pub told : HasTold bytes old new
  pub other : is_of_program told.fault.kind ≡ false

-- The status is 0, and the contents of the input's saved world were shown, or it is 1, and all that is refused was
-- reported.
pub record IsAnswered (input old new : Option (List ℕ)) (status : ℕ) : Type 0 where
  pub known : (status ≡ 0) ⊎ (status ≡ 1)
  pub read : status ≡ 0 → IfSome input (λ bytes. HasShown counts_line bytes old new)
  pub refused : status ≡ 1 → IfSome input (λ bytes. HasToldAll bytes old new ⊎ HasToldOther bytes old new)

-- Or the program gave up, with the status for that.
abbrev pub ShowsAll : Option (List ℕ) → Option (List ℕ) → Option (List ℕ) → ℕ → Type 0
ShowsAll input old new status = IsAnswered input old new status ⊎ IsGivenUp status

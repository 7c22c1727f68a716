-- The output of `moo check` and `moo copy` for a database.
use Rattle.std.specs.Prelude.{◌≡◌, ◌≢◌, ◌⊎◌, ℕ, List, ◌++◌, Err, codes, length, Option, IfSome}
use Rattle.std.specs.Fmt.{decimal}
use Rattle.std.specs.Io.KnownBytes.{Appends}
use Rattle.moo_world_table.specs.World.{programs_in}
use Rattle.moo_dbtext_read.specs.Saved.{Saved, SpellsSaved, SpellsSavedWithin}
use Rattle.moo_dbtext_record.specs.declared.fault.DbFault.{DbFault}
use Rattle.moo_dbtext_record.specs.declared.fault.DbFaultKind.TheVariants.{Memory}
use Rattle.moo_dbtext_read.specs.Loading.{LoadAnswers}
use Rattle.moo_dbtext_read.specs.Refusals.{Refuses}
use Rattle.moo_cli_io.specs.Told.{fault_line}
use Rattle.moo_cli_io.specs.GivingUp.{IsGivenUp}

-- how many objects, programs and connections there are; a recycled object counts
abbrev pub counts_line : Saved → List ℕ
counts_line s =
    decimal (length s.world.objects) ++ (codes " objects, " ++ (decimal (programs_in s.world.objects) ++ (codes " programs, " ++ (decimal (length s.connected) ++ codes " connected\n"))))

-- the bytes spell a saved world, and the output grew by what is shown of it
pub record HasShown (show : Saved → List ℕ) (bytes : List ℕ) (old new : Option (List ℕ)) : Type 0 where
  pub saved : Saved
  pub spelled : SpellsSaved bytes saved
  pub shown : Appends old new (show saved)

-- The bytes spell no saved world within the limits, and the output grew by the line of a fault with which a reader of these
-- bytes may refuse them, for a reason.
pub record HasTold (bytes : List ℕ) (old new : Option (List ℕ)) : Type 0 where
  pub fault : DbFault
  pub answer : LoadAnswers (Err fault) bytes
  pub why : Refuses bytes fault
  pub is : fault.kind ≢ Memory
  pub none : (s : Saved) → ¬ (SpellsSavedWithin bytes s)
  pub told : Appends old new (fault_line fault)

-- The status is 0, and the input's saved world was shown, or it is 1, and the reason was reported why the input is
-- refused.
pub record IsAnswered (show : Saved → List ℕ) (input old new : Option (List ℕ)) (status : ℕ) : Type 0 where
  pub known : (status ≡ 0) ⊎ (status ≡ 1)
  pub read : status ≡ 0 → IfSome input (λ bytes. HasShown show bytes old new)
  pub refused : status ≡ 1 → IfSome input (λ bytes. HasTold bytes old new)

-- Or the program gave up, with the status for that.
abbrev pub ShowsDatabase : (Saved → List ℕ) → Option (List ℕ) → Option (List ℕ) → Option (List ℕ) → ℕ → Type 0
ShowsDatabase show input old new status = IsAnswered show input old new status ⊎ IsGivenUp status

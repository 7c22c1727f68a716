-- The reads of recovery from a disk, and its answers.
use Rattle.std.specs.Prelude.{◌≡◌, ◌≢◌, ◌↔◌, ◌⊎◌, ℕ, List, take, Option, Some, None, Result, Ok, Err, MatchResult}
use Rattle.moo_dbtext_record.specs.declared.fault.DbFault.{DbFault}
use Rattle.moo_dbtext_record.specs.declared.fault.DbFaultKind.TheVariants as fault_kind
use Rattle.moo_disk.specs.Disk.{DiskKind, HasRisen, KeepsMain, KeepsSpare}
use Rattle.moo_dbtext_read.specs.Saved.{Saved, saved_of}
use Rattle.moo_dbtext_read.specs.declared.saved.Saved as stored
use Rattle.moo_dbtext_read.specs.Loading.{IsLoaded, IsRefusedSo}
use Rattle.moo_checkpoint.specs.declared.open_fault.OpenFault.{OpenFault}
use Rattle.moo_checkpoint.specs.declared.open_fault.OpenFault.TheVariants.{Device, Db, Memory}

-- Nothing was written: main and the spare are as before, and a crash leaves no more than before.
pub record Keeps {D : Type 0} (kind : DiskKind D) (old new : D) : Type 0 where
  pub main : kind.honest old → KeepsMain (kind.view old) (kind.view new)
  pub spare : kind.honest old → KeepsSpare (kind.view old) (kind.view new)
  pub has_spare : kind.has_spare old → kind.has_spare new
  pub honest : kind.honest old ↔ kind.honest new

-- If the device of an honest disk is reported, the count of failures has risen. If anything else is reported, it
-- hasn't.
abbrev pub CountsFault : Type 0 → ℕ → ℕ → OpenFault → Type 0
CountsFault Honest before now Device = Honest → HasRisen before now
CountsFault Honest before now (Db f) = now ≡ before
CountsFault Honest before now Memory = now ≡ before

-- nor has it if there is no error
abbrev pub CountsDevice : {X : Type 0} → Type 0 → ℕ → ℕ → Result X OpenFault → Type 0
CountsDevice Honest before now (Ok x) = now ≡ before
CountsDevice Honest before now (Err e) = CountsFault Honest before now e

-- the text up to a place, or all of it
abbrev pub front_to : List ℕ → Option ℕ → List ℕ
front_to text None = text
front_to text (Some at) = take at text

-- the report of a fault of the reader
abbrev pub IsToldAs : DbFault → OpenFault → Type 0
IsToldAs f Device = ⊥
IsToldAs f (Db g) = (g ≡ f) × (f.kind ≢ fault_kind.Memory)
IsToldAs f Memory = f.kind ≡ fault_kind.Memory

-- the text is refused if that is reported
abbrev pub Tells : List ℕ → OpenFault → Type 0
Tells text Device = Unit {0}
Tells text (Db f) = IsRefusedSo text f × (f.kind ≢ fault_kind.Memory)
Tells text Memory = Unit {0}

-- the answers that are possible if main is this text
abbrev pub Recovers : List ℕ → Result stored.Saved OpenFault → Type 0
Recovers text (Ok s) = IsLoaded text (saved_of s)
Recovers text (Err e) = Tells text e

-- Over a main text the result of `recover` is this saved world, a failed device, or that memory ran out: no fault of the text.
abbrev pub IsRecovered : List ℕ → Saved → Type 0
IsRecovered text saved =
    (result : Result stored.Saved OpenFault) → Recovers text result → MatchResult result (λ s. saved_of s ≡ saved) (λ e. (e ≡ Device) ⊎ (e ≡ Memory))

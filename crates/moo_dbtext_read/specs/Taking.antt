-- A reader of worlds by itself, between two pieces.
use Rattle.std.specs.Prelude.{◌≡◌, ◌++◌, ℕ, true, List, Result, Ok, Err, MatchResult, ⊤}
use Rattle.moo_dbtext_record.specs.Sparing.{has_objects}
use Rattle.moo_dbtext_record.specs.declared.fault.DbFault.{DbFault}
use Rattle.moo_dbtext_read.specs.Reading as programs
use Rattle.moo_dbtext_read.specs.Reading.{HasRead, place_of}
use Rattle.moo_dbtext_read.specs.Objects.{AreFaultless}
use Rattle.moo_dbtext_read.specs.Loading.{IsRefusedFrom}
use Rattle.moo_dbtext_read.specs.declared.world_reader.WorldReader.{WorldReader}

-- The bytes have been taken. The objects have been checked exactly if all have come, and then none is at fault.
pub record IsLoading (r : WorldReader) (bytes : List ℕ) : Type 0 where
  pub read : HasRead r.programs bytes
  pub well : programs.IsWell r.programs
  pub looked : r.is_checked ≡ has_objects (place_of r.programs).section
  pub faultless : r.is_checked ≡ true → AreFaultless (place_of r.programs).text.objects

-- What a reader has done with bytes, given the result: it is in this state, or has refused them.
abbrev pub Loads : Result ⊤ DbFault → WorldReader → List ℕ → Type 0
Loads result r bytes = MatchResult result (λ _. IsLoading r bytes) (IsRefusedFrom bytes)

-- From one state, more bytes lead to the result and to another state.
abbrev pub LoadsOn : WorldReader → List ℕ → Result ⊤ DbFault → WorldReader → Type 0
LoadsOn r more result s = (bytes : List ℕ) → IsLoading r bytes → Loads result s (bytes ++ more)

-- The reader has taken these bytes, in whatever pieces, or has refused them.
abbrev pub HasTaken : WorldReader → List ℕ → Type 0
HasTaken r bytes = Loads r.outcome r bytes

-- No fault has come yet.
abbrev pub IsGoing : WorldReader → Type 0
IsGoing r = r.outcome ≡ Ok tt

-- This fault has come.
abbrev pub HasFailed : WorldReader → DbFault → Type 0
HasFailed r e = r.outcome ≡ Err e

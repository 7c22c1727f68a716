-- A reader of worlds between two pieces.
use Rattle.std.specs.Prelude.{ℕ, List}
use Rattle.moo_dbtext_record.specs.declared.fault.DbFault.{DbFault}
use Rattle.moo_dbtext_read.specs.Taking as taking
use Rattle.moo_dbtext_read.specs.declared.db_reader.DbReader.{DbReader}

-- The reader has taken these bytes, in whatever pieces, or has refused them.
abbrev pub HasFed : DbReader → List ℕ → Type 0
HasFed r bytes = taking.HasTaken r bytes

-- No fault has come yet.
abbrev pub IsWell : DbReader → Type 0
IsWell r = taking.IsGoing r

-- This fault has come.
abbrev pub HasRefused : DbReader → DbFault → Type 0
HasRefused r e = taking.HasFailed r e

-- Lines that are read one after another.
use Rattle.std.proofs.Common.{ℕ, List, ◌++◌}
use Rattle.std.specs.Prelude.{Result, Ok, Err}
use Rattle.moo_value.specs.declared.error_code.ErrorCode.{ErrorCode}

-- lines before those that are still to be read
abbrev pub after_all : List (List ℕ) → Result (List (List ℕ)) ErrorCode → Result (List (List ℕ)) ErrorCode
after_all lines (Ok others) = Ok (lines ++ others)
after_all lines (Err e) = Err e

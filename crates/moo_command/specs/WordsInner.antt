-- Definitions that only private clauses use.
use Rattle.std.specs.Prelude.{◌==◌, ◌||◌, not, ℕ, Bool}
use Rattle.moo_command.specs.Words.{blank}

-- whether a byte is part of a word, rather than its end
abbrev pub goes_on : Bool → ℕ → Bool
goes_on grouped b = grouped || not (b == blank)

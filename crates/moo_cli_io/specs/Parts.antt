-- What a part of a line consumes of an input.
use Rattle.std.specs.Prelude.{◌≡◌, ℕ, Bool, true, false, List, [], ◌++◌, codes, Option}
use Rattle.std.specs.Io.KnownBytes.{Consumes, IsAtEnd, Keeps}
use Rattle.moo_cli_io.specs.declared.part.PartEnd.{PartEnd}
use Rattle.moo_cli_io.specs.declared.part.PartEnd.TheVariants.{More, LineFeed, Input}

-- its bytes, its bytes and LF, or nothing of an input at its end
abbrev pub TakesPart : Option (List ℕ) → Option (List ℕ) → List ℕ → PartEnd → Type 0
TakesPart old new bytes More = Consumes old new bytes
TakesPart old new bytes LineFeed = Consumes old new (bytes ++ codes "\n")
TakesPart old new bytes Input = (bytes ≡ []) × IsAtEnd old × Keeps old new

-- whether the line ends after it
abbrev pub is_last : PartEnd → Bool
is_last More = false
is_last LineFeed = true
is_last Input = true

-- Definitions that only private clauses use.
use Rattle.std.specs.Prelude.{◌≡◌, ◌≤◌, ℕ, List, length, Option, None, Some}
use Rattle.std.proofs.Common.{Vec, Global}
use Rattle.moo_value.specs.Size.{weight_limit}

-- the text that was made, or none if it is past the limit of weight
abbrev pub IsWritten : Option (Vec ℕ Global) → List ℕ → Type 0
IsWritten (Some v) s = v.items ≡ s
IsWritten None s = weight_limit ≤ length s

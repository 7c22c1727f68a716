-- Filters of names by their first letter and their hash.
use Rattle.std.specs.Prelude.{◌≡◌, ℕ, ◌/◌, ◌%◌, ◌==◌, Bool, true, List, slice_index_or}
use Rattle.std.specs.Int.{bit_at}

-- whether a name with this first letter and this hash passes a filter of these words
abbrev pub passes : List ℕ → ℕ → ℕ → Bool
passes words first hash = bit_at (slice_index_or words (first % 8) 0) (hash / 256 % 32) == 1

-- what passed still passes
abbrev pub Widens : List ℕ → List ℕ → Type 0
Widens words later = (first hash : ℕ) → passes words first hash ≡ true → passes later first hash ≡ true

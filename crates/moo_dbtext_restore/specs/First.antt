-- The first number for which a property fails.
use Rattle.std.specs.Prelude.{ℕ, ◌<◌, Option, Some, None, nat_lt, if◌then◌else◌}

-- the property holds for each number below n, or this is the first for which it fails
abbrev pub IsFirst : (ℕ → Type 0) → ℕ → Option ℕ → Type 0
IsFirst P n None = (x : ℕ) → x < n → P x
IsFirst P n (Some x) = (x < n) × (¬ (P x)) × ((y : ℕ) → y < x → P y)

-- the lesser of two numbers, or the one that is given, if any
abbrev pub least_of : Option ℕ → Option ℕ → Option ℕ
least_of None b = b
least_of (Some x) None = Some x
least_of (Some x) (Some y) = Some (if nat_lt y x then y else x)

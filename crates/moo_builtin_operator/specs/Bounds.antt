-- Where a range begins and ends, for private clauses alone.
use Rattle.std.specs.Prelude.{ℕ, ℤ, pos, ◌-◌, int_lt, int_le, ◌&&◌, if◌then◌else◌, unsigned_abs, Option, Some, None}

-- how many of n elements come before a range, and how many up to its end
abbrev pub bounds : ℤ → ℤ → ℕ → Option (ℕ × ℕ)
bounds low high n =
    if int_lt high low then Some (0, 0)
    else if int_le (pos 1) low && int_le high (pos n) then Some (unsigned_abs low - 1, unsigned_abs high)
    else None

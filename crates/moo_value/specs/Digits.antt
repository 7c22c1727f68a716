-- The number that digits write.
use Rattle.std.specs.Prelude.{ℕ, ℤ, List, ◌+◌, ◌-◌, ◌*◌, ◌%◌, ◌^◌, Bool, nat_le, ◌&&◌, fold}
use Rattle.std.specs.Int.{w32, cast_signed}

abbrev pub is_digit : ℕ → Bool
is_digit b = nat_le 48 b && nat_le b 57

-- the number that digits write
abbrev pub number : List ℕ → ℕ
number digits = fold (λ n d. n * 10 + (d - 48)) 0 digits

-- that number modulo 2^32, with a sign
abbrev pub wrapped : List ℕ → ℤ
wrapped digits = cast_signed w32 (number digits % 2 ^ 32)

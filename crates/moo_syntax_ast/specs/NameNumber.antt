-- Numbers of names without regard to case, so that two names are compared in one step: names with different numbers are different.
use Rattle.std.specs.Prelude.{ℕ, ◌+◌, ◌-◌, ◌*◌, ◌%◌, ◌^◌, ◌<◌, ◌==◌, ◌||◌, ◌&&◌, List, [], ◌∷◌, Option, Some, None, nat_le, if◌then◌else◌}
use Rattle.std.specs.Option.{unwrap_or, option_and_then}

-- the digit of a byte in lower case: a to z from 1 on, then 0 to 9, then an underscore; 0 for any other byte
abbrev pub digit_of : ℕ → ℕ
digit_of byte =
    if nat_le 97 byte && nat_le byte 122 then byte - 96
    else if nat_le 48 byte && nat_le byte 57 then byte - 21
    else if byte == 95 then 37
    else 0

-- a number in base 38 with one more digit, the lowest; none if the byte has no digit or the number may reach 2 ^ 63
abbrev pub with_digit : ℕ → ℕ → Option ℕ
with_digit digit number = if (digit == 0) || nat_le 242720316759336205 number then None else Some (digit + 38 * number)

-- the number in base 38 whose digits are those of the bytes of a name, the first byte the lowest
abbrev pub code_of : List ℕ → Option ℕ
code_of [] = Some 0
code_of (byte ∷ rest) = option_and_then (with_digit (digit_of byte)) (code_of rest)

abbrev pub hash_of : List ℕ → ℕ
hash_of [] = 0
hash_of (byte ∷ rest) = (byte + 16777619 * hash_of rest) % 2 ^ 32

-- the number of a name in lower case: its code, or a hash of 2 ^ 63 and more if it has none
abbrev pub name_number : List ℕ → ℕ
name_number name = unwrap_or (code_of name) (2 ^ 63 + hash_of name)

-- at most one name has this number
abbrev pub IsCode : ℕ → Type 0
IsCode number = number < 2 ^ 63

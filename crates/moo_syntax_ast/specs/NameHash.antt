-- Hashes of names, by which verbs are found.
use Rattle.std.specs.Prelude.{ℕ, ◌+◌, ◌*◌, ◌-◌, ◌/◌, ◌%◌, List, [], ◌∷◌, length, slice_index_or, nat_lt, if◌then◌else◌}
use Rattle.std.specs.Char.{to_ascii_lowercase}

-- the first letter of a name in lower case, or 0 if it is empty
abbrev pub first_letter : List ℕ → ℕ
first_letter [] = 0
first_letter (b ∷ bs) = to_ascii_lowercase b

-- the number of a byte of a name, the same for a letter in either case, or 0 past the end
abbrev pub letter_at : List ℕ → ℕ → ℕ
letter_at name i = slice_index_or name i 0 % 32

-- a number of a name's length, its middle letter and its last three
abbrev pub letters_hash : List ℕ → ℕ
letters_hash name = length name % 256 + letter_at name (length name / 2) * 50653 + letter_at name (length name - 3) * 1369 + letter_at name (length name - 2) * 37 + letter_at name (length name - 1)

-- the class of a name with this first letter: 0 before the letters, else 1
abbrev pub class_of : ℕ → ℕ
class_of first = if nat_lt first 65 then 0 else 1

-- the hash of a name
abbrev pub hash_of : List ℕ → ℕ
hash_of name = letters_hash name * 2 + class_of (first_letter name)

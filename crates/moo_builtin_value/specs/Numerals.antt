-- The number that a string spells, or 0.
use Rattle.std.specs.Prelude.{ℕ, ℤ, pos, Bool, true, false, ◌==◌, ◌&&◌, ◌||◌, List, [], ◌∷◌, length, take, drop, if◌then◌else◌}
use Rattle.std.specs.Int.{w32, int_wrapping_neg}
use Rattle.std.specs.List.{prefix_len}
use Rattle.moo_value.specs.Digits.{is_digit, wrapped}

abbrev pub is_blank : ℕ → Bool
is_blank b = b == 32

-- a text without the bytes at its front that pass a test
abbrev pub past : (ℕ → Bool) → List ℕ → List ℕ
past test s = drop (prefix_len test s) s

-- a text begins with this byte
abbrev pub begins : ℕ → List ℕ → Bool
begins b [] = false
begins b (c ∷ s) = c == b

-- a text without this byte at its front
abbrev pub past_byte : ℕ → List ℕ → List ℕ
past_byte b s = if begins b s then drop 1 s else s

-- there are blanks alone
abbrev pub is_blank_text : List ℕ → Bool
is_blank_text s = prefix_len is_blank s == length s

-- What may follow the digits: blanks, and before them, if a point is allowed, a point and perhaps digits.
abbrev pub may_end : Bool → List ℕ → Bool
may_end point s = is_blank_text (if point && begins 46 s then past is_digit (drop 1 s) else s)

-- the text after a plus, a minus or neither
abbrev pub past_sign : List ℕ → List ℕ
past_sign s = if begins 45 s || begins 43 s then drop 1 s else s

abbrev pub with_sign : Bool → ℤ → ℤ
with_sign minus i = if minus then int_wrapping_neg w32 i else i

-- The number of digits with this text after them, if there are digits and it may end them
abbrev pub number_at : Bool → Bool → List ℕ → ℤ
number_at point minus s =
    if prefix_len is_digit s == 0 then pos 0
    else if may_end point (past is_digit s) then with_sign minus (wrapped (take (prefix_len is_digit s) s))
    else pos 0

-- the number that a text spells from its sign on: a sign or none, blanks, digits, and what may end them
abbrev pub signed_number : Bool → List ℕ → ℤ
signed_number point s = number_at point (begins 45 s) (past is_blank (past_sign s))

-- an integer's number: blanks, and from the sign on, with a fraction dropped
abbrev pub integer_number : List ℕ → ℤ
integer_number s = signed_number true (past is_blank s)

-- an object's number: blanks, a `#` or none, and from the sign on
abbrev pub object_number : List ℕ → ℤ
object_number s = signed_number false (past_byte 35 (past is_blank s))

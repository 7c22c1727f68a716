-- The token that bytes begin with.
use Rattle.std.specs.Prelude.{ℕ, ℤ, List, [], ◌∷◌, ◌+◌, Bool, true, false, Option, Some, None, nat_eq, nat_le, ◌&&◌, ◌||◌, if◌then◌else◌, not, take, drop}
use Rattle.std.specs.Option.{option_map}
use Rattle.std.specs.List.{prefix_len}
use Rattle.std.specs.Int.{w32, int_wrapping_neg}
use Rattle.moo_value.specs.declared.error_code.ErrorCode.{ErrorCode}
use Rattle.moo_value.specs.Digits.{is_digit, wrapped}
use Rattle.moo_value.specs.Errors.{error_named}
use Rattle.moo_syntax_token.specs.declared.keyword.Keyword.{Keyword}
use Rattle.moo_syntax_token.specs.declared.token.Token.{Token}
use Rattle.moo_syntax_token.specs.declared.token.Token.TheVariants as token
use Rattle.moo_syntax_token.specs.Words.{keyword_of}
use Rattle.moo_syntax_token.specs.Signs.{sign_at}

-- a letter or `_`
abbrev pub begins_name : ℕ → Bool
begins_name b = nat_le 65 b && nat_le b 90 || nat_le 97 b && nat_le b 122 || nat_eq b 95

-- a letter, `_` or a digit
abbrev pub continues_name : ℕ → Bool
continues_name b = begins_name b || is_digit b

-- the token of a word: a keyword, an error or a name
abbrev pub named : List ℕ → Option Keyword → Option ErrorCode → Token
named word (Some k) e = token.Keyword k
named word None (Some e) = token.Error e
named word None None = token.Name word

abbrev pub word : List ℕ → Token
word bytes = named bytes (keyword_of bytes) (error_named bytes)

-- an exponent, or a dot that is not part of `..`: these may not follow an integer
unfoldable pub begins_fraction : List ℕ → Bool
begins_fraction [] = false
begins_fraction (a ∷ []) = nat_eq a 69 || nat_eq a 101 || nat_eq a 46
begins_fraction (a ∷ b ∷ bs) = nat_eq a 69 || nat_eq a 101 || nat_eq a 46 && not (nat_eq b 46)

-- an integer, at a digit
unfoldable pub integer_at : List ℕ → Option (Token × ℕ)
integer_at bs =
    if begins_fraction (drop (prefix_len is_digit bs) bs) then None
    else Some (token.Integer (wrapped (take (prefix_len is_digit bs) bs)), prefix_len is_digit bs)

-- the number that the bytes begin with, and how many digits it has
unfoldable pub number_at : List ℕ → Option (ℤ × ℕ)
number_at bs = if nat_eq (prefix_len is_digit bs) 0 then None else Some (wrapped (take (prefix_len is_digit bs) bs), prefix_len is_digit bs)

-- the object number after `#`: an optional `-`, and a number
unfoldable pub object_at : List ℕ → Option (ℤ × ℕ)
object_at [] = None
object_at (b ∷ bs) = if nat_eq b 45 then option_map (λ o. (int_wrapping_neg w32 o.0, 1 + o.1)) (number_at bs) else number_at (b ∷ bs)

-- The rest of a string after its opening quote: the string, and the number of bytes up to and including its closing
-- quote. `taken` means that a backslash precedes these bytes.
unfoldable pub unquoted : (taken : Bool) → List ℕ → Option (List ℕ × ℕ)
unquoted taken [] = None
unquoted true (b ∷ bs) = option_map (λ s. (b ∷ s.0, 1 + s.1)) (unquoted false bs)
unquoted false (b ∷ bs) =
    if nat_eq b 34 then Some ([], 1)
    else if nat_eq b 92 then option_map (λ s. (s.0, 1 + s.1)) (unquoted true bs)
    else option_map (λ s. (b ∷ s.0, 1 + s.1)) (unquoted false bs)

-- the longest token that the bytes begin with, and its length
unfoldable pub token_at : List ℕ → Option (Token × ℕ)
token_at [] = None
token_at (b ∷ bs) =
    if begins_name b then Some (word (take (prefix_len continues_name (b ∷ bs)) (b ∷ bs)), prefix_len continues_name (b ∷ bs))
    else if is_digit b then integer_at (b ∷ bs)
    else if nat_eq b 35 then option_map (λ o. (token.Object o.0, 1 + o.1)) (object_at bs)
    else if nat_eq b 34 then option_map (λ s. (token.Str s.0, 1 + s.1)) (unquoted false bs)
    else option_map (λ s. (token.Sign s.0, s.1)) (sign_at (b ∷ bs))

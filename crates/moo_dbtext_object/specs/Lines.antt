-- Numbers and strings, one per line.
use Rattle.std.specs.Prelude.{◌≡◌, ◌⊎◌, ℕ, ℤ, pos, negsuc, ◌<◌, ◌≤◌, ◌^◌, Bool, List, [], ◌∷◌, ◌++◌, length, Result, Ok, Err, nat_lt, nat_le, neg_ℤ, drop, slice_index, ◌==◌, ◌&&◌, ◌||◌, if◌then◌else◌}
use Rattle.std.specs.List.{list_all, flat_map}
use Rattle.std.specs.Fmt.{signed_decimal}
use Rattle.std.specs.Str.{bytes_eq}
use Rattle.std.specs.Str.Parse.{digits_value}
use Rattle.moo_value.specs.Size.{weight_limit, IsString}
use Rattle.moo_value.specs.Tree.{IsText}
use Rattle.moo_dbtext_object.specs.declared.fault.LineFault.{LineFault}
use Rattle.moo_dbtext_object.specs.declared.fault.LineFault.TheVariants.{BadNumber, BadString, TooLarge}
use Rattle.moo_dbtext_object.specs.declared.fault.Refusal.{Refusal}
use Rattle.moo_dbtext_object.specs.declared.fault.Refusal.TheVariants as refusal

-- a line without its end
abbrev pub Line : Type 0
Line = List ℕ

-- a text of lines, each with its end
abbrev pub unlines : List Line → List ℕ
unlines ls = flat_map (λ l. l ++ 10 ∷ []) ls

infixl 10 ◌>>=◌
abbrev pub ◌>>=◌ : {A B : Type 0} → Result A LineFault → (A → Result B LineFault) → Result B LineFault
(Ok x) >>= f = f x
(Err e) >>= f = Err e

-- What a function returned, seen by view, is what reading gives, unless memory ran out.
abbrev pub Fails : {Y : Type 0} → Refusal → Result Y LineFault → Type 0
Fails refusal.Memory read = Unit {0}
Fails (refusal.Fault f) read = read ≡ Err f

abbrev pub Gives : {X Y : Type 0} → (X → Y) → Result X Refusal → Result Y LineFault → Type 0
Gives view (Ok x) read = read ≡ Ok (view x)
Gives view (Err e) read = Fails e read

-- Whether the size limits are kept. A reader of texts keeps them; the format itself has none.
pub data Sizes : Type 0 where
  unlimited : Sizes
  limited : Sizes

-- what was read, if its size fits
abbrev pub within : {A : Type 0} → Sizes → Bool → A → Result A LineFault
within unlimited fits x = Ok x
within limited fits x = if fits then Ok x else Err TooLarge

-- within 32 bits
abbrev pub fits : ℤ → Bool
fits (pos n) = nat_lt n (2 ^ 31)
fits (negsuc n) = nat_lt n (2 ^ 31)

-- the number of a sign or none and digits
abbrev pub value_of : Line → ℤ
value_of line = if slice_index line 0 == 45 then neg_ℤ (pos (digits_value 10 (drop 1 line))) else pos (digits_value 10 line)

-- The number whose decimal form the line is.
unfoldable pub number_of : Line → Result ℤ LineFault
number_of line = let z = value_of line in if fits z && bytes_eq line (signed_decimal z) then Ok z else Err BadNumber

abbrev pub natural_of : ℤ → Result ℕ LineFault
natural_of (pos n) = Ok n
natural_of (negsuc n) = Err BadNumber

unfoldable pub count_of : Line → Result ℕ LineFault
count_of line = number_of line >>= natural_of

-- the most records of a kind
abbrev pub most_records : ℕ
most_records = 1000000

unfoldable pub bounded_count_of : Sizes → Line → Result ℕ LineFault
bounded_count_of s line = count_of line >>= λ n. within s (nat_le n most_records) n

abbrev pub at_most : ℕ → ℕ → Result ℕ LineFault
at_most most n = if nat_le n most then Ok n else Err BadNumber

unfoldable pub small_of : ℕ → Line → Result ℕ LineFault
small_of most line = count_of line >>= at_most most

-- a byte of a string: a tab, or one that prints
abbrev pub is_text_byte : ℕ → Bool
is_text_byte b = (b == 9) || (nat_le 32 b && nat_le b 126)

unfoldable pub text_of : Sizes → Line → Result (List ℕ) LineFault
text_of s line = if list_all is_text_byte line then within s (nat_lt (length line) weight_limit) line else Err BadString

-- a string, which is within its limit if sizes are limited
abbrev pub IsStringOf : Sizes → Line → Type 0
IsStringOf unlimited s = IsText s
IsStringOf limited s = IsString s

-- a number of records, which is within its limit if sizes are limited
abbrev pub IsCountOf : Sizes → ℕ → Type 0
IsCountOf unlimited n = n < 2 ^ 31
IsCountOf limited n = n ≤ most_records

-- the line of a number that counts
abbrev pub count_line : ℕ → Line
count_line n = signed_decimal (pos n)

-- an answer under size limits, and the answer without them: both are equal, or the first is TooLarge
abbrev pub Cut : {A : Type 0} → Result A LineFault → Result A LineFault → Type 0
Cut r q = (r ≡ q) ⊎ (r ≡ Err TooLarge)

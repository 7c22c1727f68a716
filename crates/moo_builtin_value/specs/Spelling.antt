-- How a string spells a number.
use Rattle.std.specs.Prelude.{◌≡◌, ◌≢◌, ℕ, ℤ, pos, Bool, true, false, List, [], ◌∷◌, ◌++◌}
use Rattle.std.specs.List.{AllByRecursion}
use Rattle.moo_value.specs.Digits.{is_digit, wrapped}
use Rattle.moo_builtin_value.specs.Numerals.{is_blank, with_sign, integer_number, object_number}

abbrev pub AreBlanks : List ℕ → Type 0
AreBlanks s = AllByRecursion (λ b. is_blank b ≡ true) s

abbrev pub AreDigits : List ℕ → Type 0
AreDigits s = AllByRecursion (λ b. is_digit b ≡ true) s

-- `-`, `+` or none
pub data IsSign : Bool → List ℕ → Type 0 where
  minus : IsSign true (45 ∷ [])
  plus : IsSign false (43 ∷ [])
  no_sign : IsSign false []

-- none, or if a point is allowed, a point and digits or none
pub data IsFraction : Bool → List ℕ → Type 0 where
  no_fraction : {point : Bool} → IsFraction point []
  fraction : {digits : List ℕ} → AreDigits digits → IsFraction true (46 ∷ digits)

-- `#` or none
pub data IsMark : List ℕ → Type 0 where
  mark : IsMark (35 ∷ [])
  no_mark : IsMark []

-- a sign or none, blanks, a digit and more, perhaps a fraction, blanks: so a string spells a number from its sign on
pub record IsSigned (point : Bool) (s : List ℕ) (i : ℤ) : Type 0 where
  pub is_minus : Bool
  pub sign : List ℕ
  pub between : List ℕ
  pub first : ℕ
  pub digits : List ℕ
  pub part : List ℕ
  pub after : List ℕ
  pub whole : s ≡ sign ++ (between ++ (first ∷ digits ++ (part ++ after)))
  pub sign_is : IsSign is_minus sign
  pub between_is : AreBlanks between
  pub digits_are : AreDigits (first ∷ digits)
  pub part_is : IsFraction point part
  pub after_is : AreBlanks after
  pub number : i ≡ with_sign is_minus (wrapped (first ∷ digits))

-- blanks before it
pub record SpellsInteger (s : List ℕ) (i : ℤ) : Type 0 where
  pub before : List ℕ
  pub rest : List ℕ
  pub whole : s ≡ before ++ rest
  pub before_is : AreBlanks before
  pub rest_is : IsSigned true rest i

-- blanks before it, then `#` or none, and no fraction
pub record SpellsObject (s : List ℕ) (o : ℤ) : Type 0 where
  pub before : List ℕ
  pub hash : List ℕ
  pub rest : List ℕ
  pub whole : s ≡ before ++ (hash ++ rest)
  pub before_is : AreBlanks before
  pub hash_is : IsMark hash
  pub rest_is : IsSigned false rest o

-- a string that spells an integer gives it, and what gives another number than 0 spells it
abbrev pub ReadsIntegers : Type 0
ReadsIntegers = (s : List ℕ) → ((i : ℤ) → SpellsInteger s i → integer_number s ≡ i) × (integer_number s ≢ pos 0 → SpellsInteger s (integer_number s))

abbrev pub ReadsObjects : Type 0
ReadsObjects = (s : List ℕ) → ((o : ℤ) → SpellsObject s o → object_number s ≡ o) × (object_number s ≢ pos 0 → SpellsObject s (object_number s))

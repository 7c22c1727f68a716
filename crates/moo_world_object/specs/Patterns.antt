-- The match of a name against the names of a verb.
use Rattle.std.specs.Prelude.{◌≡◌, ◌≤◌, ◌⊎◌, ℕ, Bool, ◌==◌, ◌&&◌, ◌||◌, not, nat_eq, nat_le, List, [], ◌++◌, ◌∷◌, length, filter}
use Rattle.std.specs.List.{position_or_len, starts_with, ends_with, slice_split, list_any}
use Rattle.moo_value.specs.Compare.{folded}

abbrev pub is_star : ℕ → Bool
is_star b = b == 42

-- a pattern without its stars
abbrev pub base : List ℕ → List ℕ
base pattern = filter (λ b. not (is_star b)) pattern

-- the length of the part before the first star, or of the whole if there is none
abbrev pub least : List ℕ → ℕ
least pattern = position_or_len is_star pattern

-- whether `front` is a prefix of `whole`, without regard to case
abbrev pub begins : List ℕ → List ℕ → Bool
begins front whole = starts_with nat_eq (folded whole) (folded front)

abbrev pub ends_in_star : List ℕ → Bool
ends_in_star pattern = ends_with nat_eq pattern (42 ∷ [])

-- a prefix of the base that is long enough, or, if the pattern ends in a star, a name that begins with the base
abbrev pub fits : List ℕ → List ℕ → Bool
fits pattern name = (begins name (base pattern) && nat_le (least pattern) (length name)) || (ends_in_star pattern && begins (base pattern) name)

-- the rule of patterns as relations: `front` is a prefix of `whole`
abbrev pub Begins : List ℕ → List ℕ → Type 0
Begins front whole = (following : List ℕ) × (folded whole ≡ folded front ++ following)

abbrev pub EndsInStar : List ℕ → Type 0
EndsInStar pattern = (front : List ℕ) × (pattern ≡ front ++ 42 ∷ [])

abbrev pub Fits : List ℕ → List ℕ → Type 0
Fits pattern name = (Begins name (base pattern) × (least pattern ≤ length name)) ⊎ (EndsInStar pattern × Begins (base pattern) name)

abbrev pub is_blank : ℕ → Bool
is_blank b = b == 32

abbrev pub is_word : List ℕ → Bool
is_word word = not (length word == 0)

-- the words between blanks
abbrev pub words : List ℕ → List (List ℕ)
words names = filter is_word (slice_split is_blank names)

abbrev pub has_word : List ℕ → Bool
has_word names = list_any is_word (slice_split is_blank names)

abbrev pub is_mark : ℕ → Bool
is_mark b = is_blank b || is_star b

-- whether there is a blank or a star among the names of a verb
abbrev pub has_mark : List ℕ → Bool
has_mark names = list_any is_mark names

-- whether the name matches one of the words
abbrev pub fits_names : List ℕ → List ℕ → Bool
fits_names names name = list_any (λ pattern. fits pattern name) (words names)

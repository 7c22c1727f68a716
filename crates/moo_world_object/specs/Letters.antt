-- Letters that exclude names which do not match a verb.
use Rattle.std.specs.Prelude.{◌≡◌, ◌≢◌, ⊤, ℕ, List, [], ◌∷◌, Bool, true, false, ◌==◌, ◌||◌, not}
use Rattle.std.specs.Char.{to_ascii_lowercase}
use Rattle.moo_syntax_ast.specs.NameHash.{first_letter}
use Rattle.moo_value.specs.Compare.{folded}
use Rattle.moo_syntax_ast.specs.NameNumber.{name_number}
use Rattle.moo_world_object.specs.Patterns.{is_star, has_mark, fits_names}
use Rattle.moo_world_object.specs.declared.verb.Verb.{Verb}

-- whether a pattern does not begin with this letter
abbrev pub begins_otherwise : ℕ → List ℕ → Bool
begins_otherwise letter [] = false
begins_otherwise letter (b ∷ bs) = is_star b || not (to_ascii_lowercase b == letter)

-- whether a name with this first letter may match a verb with this filter letter: 0 excludes nothing
abbrev pub may_begin : ℕ → ℕ → Bool
may_begin letter first = letter == 0 || letter == first

-- a filter letter for the names of a verb: each name that matches begins with it
abbrev pub IsLetter : ℕ → List ℕ → Type 0
IsLetter letter names = (name : List ℕ) → fits_names names name ≡ true → may_begin letter (first_letter name) ≡ true

-- filter letters for the first of these verbs
abbrev pub AreLetters : List ℕ → List Verb → Type 0
AreLetters [] verbs = ⊤
AreLetters (letter ∷ letters) [] = ⊥
AreLetters (letter ∷ letters) (v ∷ verbs) = IsLetter letter v.names × AreLetters letters verbs

-- the number of the only name of a verb, or 0 if none is known
abbrev pub IsNumberOf : ℕ → List ℕ → Type 0
IsNumberOf number names = number ≢ 0 → (number ≡ name_number (folded names)) × (has_mark names ≡ false)

-- numbers for the first of these verbs
abbrev pub AreNumbers : List ℕ → List Verb → Type 0
AreNumbers [] verbs = ⊤
AreNumbers (number ∷ numbers) [] = ⊥
AreNumbers (number ∷ numbers) (v ∷ verbs) = IsNumberOf number v.names × AreNumbers numbers verbs

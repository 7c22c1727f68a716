-- The equality of `==` of the language.
use Rattle.std.specs.Prelude.{ℕ, ◌≡◌, ◌≤◌, ◌+◌, ◌⊎◌, ℤ, List, [], ◌∷◌}
use Rattle.moo_value.specs.declared.error_code.ErrorCode.{ErrorCode}
use Rattle.moo_value.specs.Tree.{Tree, Elements, integer, object, error, string, list, no_elements, element}

-- the one is a letter from A to Z, the other the same letter from a to z
pub record IsCapitalOf (capital small : ℕ) : Type 0 where
  pub least : 65 ≤ capital
  pub most : capital ≤ 90
  pub small_is : small ≡ capital + 32

-- the bytes are equal except for the case of a letter
abbrev pub IsAlike : ℕ → ℕ → Type 0
IsAlike b c = (b ≡ c) ⊎ (IsCapitalOf b c ⊎ IsCapitalOf c b)

-- as many bytes, each alike
pub data AreAlike : List ℕ → List ℕ → Type 0 where
  both_end : AreAlike [] []
  one_more : {b c : ℕ} {s t : List ℕ} → IsAlike b c → AreAlike s t → AreAlike (b ∷ s) (c ∷ t)

mutual
  -- equal numbers, objects or errors; strings that are alike; or lists of the same length whose elements are equal
  pub data IsEqual : Tree → Tree → Type 0 where
    integers : {i : ℤ} → IsEqual (integer i) (integer i)
    objects : {o : ℤ} → IsEqual (object o) (object o)
    errors : {e : ErrorCode} → IsEqual (error e) (error e)
    strings : {s t : List ℕ} → AreAlike s t → IsEqual (string s) (string t)
    lists : {es fs : Elements} → AreEqual es fs → IsEqual (list es) (list fs)

  pub data AreEqual : Elements → Elements → Type 0 where
    all_equal : AreEqual no_elements no_elements
    one_equal : {t u : Tree} {es fs : Elements} → IsEqual t u → AreEqual es fs → AreEqual (element t es) (element u fs)

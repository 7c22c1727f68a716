-- Words as the values of a list.
use Rattle.std.specs.Prelude.{ℕ, List, map}
use Rattle.moo_value.specs.Tree.{Tree, string, list_of}
use Rattle.moo_value.specs.Size.{IsWithinLimits}

abbrev pub strings_of : List (List ℕ) → List Tree
strings_of words = map (λ word. string word) words

-- the list of these words is within the limits
abbrev pub FitsAList : List (List ℕ) → Type 0
FitsAList words = IsWithinLimits (list_of (strings_of words))

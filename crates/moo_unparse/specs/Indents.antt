-- Lines with blanks before them.
use Rattle.std.specs.Prelude.{ℕ, zero, suc, List, [], ◌∷◌, ◌++◌, codes}

-- two blanks for each of n statements
abbrev pub blanks : ℕ → List ℕ
blanks zero = []
blanks (suc n) = codes "  " ++ blanks n

-- the second lines are the first, in their order, each with such blanks before it
pub data AreIndented : List (List ℕ) → List (List ℕ) → Type 0 where
  no_line : AreIndented [] []
  line : (n : ℕ) (bytes : List ℕ) {ls ms : List (List ℕ)} → AreIndented ls ms → AreIndented (bytes ∷ ls) ((blanks n ++ bytes) ∷ ms)

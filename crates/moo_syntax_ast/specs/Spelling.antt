-- Numbers that encode spellings, so that two spellings are compared in one step.
use Rattle.std.specs.Prelude.{◌≡◌, ℕ, ◌+◌, ◌*◌, List, [], ◌∷◌, ◌++◌}

-- a number in base 257 whose digits are the bytes, the first byte the lowest, each from 1 to 256
abbrev pub spelling : List ℕ → ℕ
spelling [] = 0
spelling (byte ∷ rest) = 1 + byte + 257 * spelling rest

-- the numbers of a spelling in two parts
abbrev pub AreNumbersOf : ℕ → ℕ → List ℕ → Type 0
AreNumbersOf number further text = (first : List ℕ) × (others : List ℕ) × (text ≡ first ++ others) × (number ≡ spelling first) × (further ≡ spelling others)

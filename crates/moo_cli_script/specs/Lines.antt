-- The lines of a text.
use Rattle.std.specs.Prelude.{◌≡◌, ℕ, ◌<◌, ◌==◌, Bool, true, false, List, [], ◌∷◌, length, Option, Some, None, ⊤, if◌then◌else◌}

-- the lines of a text that begins with a byte, which is LF or isn't, in front of a text of these lines
abbrev pub in_front : Bool → ℕ → List (List ℕ) → List (List ℕ)
in_front true b lines = [] ∷ lines
in_front false b [] = (b ∷ []) ∷ []
in_front false b (line ∷ lines) = (b ∷ line) ∷ lines

-- the lines of a text, without the LF that ends each; the last may have none
abbrev pub lines_of : List ℕ → List (List ℕ)
lines_of [] = []
lines_of (b ∷ bytes) = in_front (b == 10) b (lines_of bytes)

-- the first line was taken of an input whose bytes are known
abbrev pub TakesLine : Option (List ℕ) → Option (List ℕ) → List ℕ → Type 0
TakesLine None new line = ⊤
TakesLine (Some bytes) None line = ⊥
TakesLine (Some bytes) (Some rest) line = lines_of bytes ≡ line ∷ lines_of rest

-- a text is its first line and a shorter rest
abbrev pub IsCut : List ℕ → List ℕ → List ℕ → Type 0
IsCut text line rest = (lines_of text ≡ line ∷ lines_of rest) × (length rest < length text)

-- a line without a CR at its end
abbrev pub without_return : List ℕ → List ℕ
without_return [] = []
without_return (b ∷ []) = if b == 13 then [] else b ∷ []
without_return (b ∷ c ∷ bytes) = b ∷ without_return (c ∷ bytes)

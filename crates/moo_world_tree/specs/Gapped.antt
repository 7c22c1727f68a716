-- Lists with gaps.
use Rattle.std.specs.Prelude.{◌≡◌, ℕ, ◌≤◌, List, [], ◌∷◌, Option, Some, None, length, take}

-- the contents of these slots, in order
abbrev pub present : List (Option ℕ) → List ℕ
present [] = []
present (None ∷ slots) = present slots
present (Some x ∷ slots) = x ∷ present slots

-- this many slots at the front are empty
abbrev pub BeginsEmpty : ℕ → List (Option ℕ) → Type 0
BeginsEmpty n slots = (n ≤ length slots) × (present (take n slots) ≡ [])

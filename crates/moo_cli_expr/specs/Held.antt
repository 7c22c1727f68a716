-- Definitions of private clauses: how much of a line is held.
use Rattle.std.specs.Prelude.{◌≡◌, ℕ, ◌≤◌, Bool, true, List, ◌++◌, length, ◌⊎◌}
use Rattle.moo_value.specs.Tree.{IsText}

-- the number of bytes at which a line is too long for a program
abbrev pub long_line : ℕ
long_line = 1000000

-- the held part decides as the line does: it is the line, or both have a byte that no string can hold, or both are
-- texts that are too long
abbrev pub StandsFor : List ℕ → List ℕ → Type 0
StandsFor held line =
    (held ≡ line) ⊎ ((¬ IsText held) × (¬ IsText line)) ⊎ ((IsText held × IsText line) × ((long_line ≤ length held) × (long_line ≤ length line)))

-- bytes were appended to those held, or good bytes after a line that is too long already were left out
abbrev pub Holds : List ℕ → List ℕ → Bool → List ℕ → Type 0
Holds old bytes is_good new = (new ≡ old ++ bytes) ⊎ ((is_good ≡ true) × ((long_line ≤ length old) × (new ≡ old)))

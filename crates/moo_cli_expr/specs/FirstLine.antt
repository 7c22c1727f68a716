-- The first line of an input.
use Rattle.std.specs.Prelude.{ℕ, List, not, ◌==◌}
use Rattle.std.specs.List.{take_while}

-- the bytes before the first LF, or all
abbrev pub first_line : List ℕ → List ℕ
first_line bytes = take_while (λ b. not (b == 10)) bytes

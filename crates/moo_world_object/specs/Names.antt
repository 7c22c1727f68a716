-- Names, which are compared without regard to case.
use Rattle.std.specs.Prelude.{ℕ, List, Bool}
use Rattle.std.specs.Str.{bytes_eq}

-- whether two names in lower case are the same
abbrev pub same_name : List ℕ → List ℕ → Bool
same_name = bytes_eq

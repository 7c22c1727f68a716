-- The output of `moo expr` for the input's first line.
use Rattle.std.specs.Prelude.{◌≡◌, ◌⊎◌, ℕ, List, ◌++◌, codes, Option, IfSome}
use Rattle.std.specs.List.{flat_map}
use Rattle.std.specs.Io.KnownBytes.{Appends}
use Rattle.moo_eval_semantics.specs.Line.{AnswersLine}
use Rattle.moo_cli_io.specs.GivingUp.{IsGivenUp}
use Rattle.moo_cli_expr.specs.FirstLine.{first_line}

-- the lines, each with LF
abbrev pub printed : List (List ℕ) → List ℕ
printed lines = flat_map (λ line. line ++ codes "\n") lines

-- the output grew by the lines that the input's first line gives, with this status
abbrev pub IsAnswered : Option (List ℕ) → Option (List ℕ) → Option (List ℕ) → ℕ → Type 0
IsAnswered input old new status =
    ((status ≡ 0) ⊎ (status ≡ 5)) × IfSome input (λ bytes. (lines : List (List ℕ)) × (AnswersLine (first_line bytes) lines status × Appends old new (printed lines)))

-- Or the program gave up, with the status for that.
abbrev pub ShowsAnswer : Option (List ℕ) → Option (List ℕ) → Option (List ℕ) → ℕ → Type 0
ShowsAnswer input old new status = IsAnswered input old new status ⊎ IsGivenUp status

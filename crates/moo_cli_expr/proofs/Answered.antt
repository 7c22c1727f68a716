-- What is held of a line gives what the line gives.
use Rattle.std.proofs.Common.{◌≡◌, ℕ, ◌≤◌, ◌⊎◌, inl, inr, List, ◌++◌, Some, None, IfSome, codes, length, subst, arith, length-append}
use Rattle.std.specs.Prelude.{Option}
use Rattle.std.specs.Io.KnownBytes.{Appends}
use Rattle.moo_value.specs.Size.{IsString}
use Rattle.moo_eval_semantics.specs.Line.{AnswersLine, bad_byte, too_long, refused, runs, program_text}
use Rattle.moo_eval.proofs.Held.{held_bad_byte, held_too_long}
use Rattle.moo_cli_io.specs.GivingUp.{HasGivenUp}
use Rattle.moo_cli_io.specs.declared.watch.Watch.{Watch}
use Rattle.moo_cli_expr.specs.Expr.{IsAnswered, ShowsAnswer, printed}
use Rattle.moo_cli_expr.specs.FirstLine.{first_line}
use Rattle.moo_cli_expr.specs.Held.{StandsFor, long_line}

-- a long line is no program
no_string : (line : List ℕ) → long_line ≤ length line → IsString (program_text line) → ⊥
no_string line long string =
    omega (arith, long, string.fits, length-append (codes "return " ++ line) (codes ";"), length-append (codes "return ") line)

answers_for : (held line : List ℕ) (lines : List (List ℕ)) (status : ℕ) → StandsFor held line → AnswersLine held lines status → AnswersLine line lines status
answers_for held line lines status (inl is) a = let P : List ℕ → Type 0 = λ l. AnswersLine l lines status in subst P is a
answers_for held line lines status (inr (inl bad)) a = held_bad_byte bad.0 bad.1 a
answers_for held line lines status (inr (inr long)) a = held_too_long long.0.0 (no_string held long.1.0) long.0.1 (no_string line long.1.1) a

known_status : (line : List ℕ) (lines : List (List ℕ)) (status : ℕ) → AnswersLine line lines status → (status ≡ 0) ⊎ (status ≡ 5)
known_status line lines status (bad_byte bad is five) = inr five
known_status line lines status (too_long text long is five) = inr five
known_status line lines status (refused string fault has is five) = inr five
known_status line lines status (runs string end run is zero) = inl zero

pub shown : (known old new : Option (List ℕ)) (held : List ℕ) (lines : List (List ℕ)) (status : ℕ)
    → IfSome known (λ bytes. StandsFor held (first_line bytes)) → AnswersLine held lines status → Appends old new (printed lines) → IsAnswered known old new status
shown None old new held lines status stands answers grows = (known_status held lines status answers, tt)
shown (Some bytes) old new held lines status stands answers grows =
    (known_status held lines status answers, (lines, (answers_for held (first_line bytes) lines status stands answers, grows)))

pub shows : (known old new : Option (List ℕ)) (watch : Watch) (status : ℕ) → IsAnswered known old new status ⊎ HasGivenUp old new watch status → ShowsAnswer known old new status
shows known old new watch status (inl a) = inl a
shows known old new watch status (inr g) = inr (g.refusal, g.is)

-- A fault is reported on a line of the text.
use Rattle.std.proofs.Common.{ℕ, List, [], ◌∷◌, ◌++◌, ◌≡◌, ◌≢◌, ◌≤◌, refl, sym, subst, length, drop, arith}
use Rattle.std.specs.Prelude.{All}
use Rattle.std.proofs.lemmas.List.Elements.{All-head, All-drop, All-tail}
use Rattle.moo_syntax_token.specs.declared.token.Spot.{Spot}
use Rattle.moo_syntax_token.specs.Lexing.{IsReading, text_end}
use Rattle.moo_syntax_token.specs.Reading.{IsOnLine}
use Rattle.moo_syntax_token.proofs.Readings.{lines_within}
use Rattle.moo_syntax_ast.specs.Tree.{no_statement}
use Rattle.moo_syntax_grammar.specs.declared.names.Names.{Names}
use Rattle.moo_syntax_grammar.specs.Grammar.{no_statements}
use Rattle.moo_syntax_grammar.specs.Texts.{IsParsed}
use Rattle.moo_syntax.specs.declared.syntax_fault.SyntaxFaultKind.{SyntaxFaultKind}
use Rattle.moo_syntax.specs.declared.syntax_fault.SyntaxFaultKind.TheVariants.{BadToken, Unexpected, BadTarget, UnknownFunction, BadLoopName, TooDeep, Memory}
use Rattle.moo_syntax.specs.Programs.{Blames, line_of}
use Rattle.moo_syntax.proofs.Blamed.{parsed_is_not_blamed}

-- a line of the text, counted from 1
abbrev IsToldLine : List (List ℕ) → ℕ → Type 0
IsToldLine lines n = (1 ≤ n) × (n ≤ length lines)

-- the text of no lines is a program within the limits
no_lines : (names : Names) → IsParsed names [] no_statement
no_lines names = record {
  spots = [];
  tokens = text_end;
  program = no_statements;
  limits = record { brackets = omega arith; program = record { nodes = omega arith; lines = tt } };
}

-- a text with a fault has a line
has_line : (names : Names) (lines : List (List ℕ)) (n : ℕ) (k : SyntaxFaultKind) → Blames names lines n k → k ≢ Memory → 1 ≤ length lines
has_line names [] n k f m = absurd (parsed_is_not_blamed names [] n k no_statement f m (no_lines names))
has_line names (line ∷ lines) n k f m = omega arith

first_on_line : (lines : List (List ℕ)) (spots : List Spot) → 1 ≤ length lines → All (IsOnLine lines) spots → IsToldLine lines (line_of lines spots)
first_on_line lines [] h a = (h, omega arith)
first_on_line lines (s ∷ spots) h a = All-head (IsOnLine lines) s spots a

on_line_at : (lines : List (List ℕ)) (spots : List Spot) (at n : ℕ) → 1 ≤ length lines → IsReading lines spots → n ≡ line_of lines (drop at spots) → IsToldLine lines n
on_line_at lines spots at n h r e = subst (IsToldLine lines) (sym e) (first_on_line lines (drop at spots) h (All-drop (IsOnLine lines) at spots (lines_within lines spots r)))

last_on_line : (lines : List (List ℕ)) (before : List Spot) (s : Spot) → All (IsOnLine lines) (before ++ s ∷ []) → IsOnLine lines s
last_on_line lines [] s a = All-head (IsOnLine lines) s [] a
last_on_line lines (x ∷ before) s a = last_on_line lines before s (All-tail (IsOnLine lines) x (before ++ s ∷ []) a)

pub told_line : (names : Names) (lines : List (List ℕ)) (n : ℕ) (k : SyntaxFaultKind) → Blames names lines n k → k ≢ Memory → (1 ≤ n) × (n ≤ length lines)
told_line names lines n BadToken f m = last_on_line lines f.before _ (lines_within lines _ f.reading)
told_line names lines n Unexpected f m = on_line_at lines f.spots f.at n (has_line names lines n Unexpected f m) f.reading f.line
told_line names lines n BadTarget f m = on_line_at lines f.spots f.at n (has_line names lines n BadTarget f m) f.reading f.line
told_line names lines n (UnknownFunction s) f m = on_line_at lines f.spots f.call.before n (has_line names lines n (UnknownFunction s) f m) f.reading f.line
told_line names lines n BadLoopName f m = on_line_at lines f.spots f.at n (has_line names lines n BadLoopName f m) f.reading f.line
told_line names lines n TooDeep f m = on_line_at lines f.spots f.at n (has_line names lines n TooDeep f m) f.reading f.line
told_line names lines n Memory f m = absurd (m refl)

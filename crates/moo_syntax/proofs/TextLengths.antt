-- A text has at least as many bytes as tokens.
use Rattle.std.proofs.Common.{ℕ, ◌+◌, ◌≤◌, List, [], ◌∷◌, ◌≡◌, true, Some, length, drop, arith, length-drop}
use Rattle.std.proofs.lemmas.List.Sums.{sum_by-cons}
use Rattle.moo_syntax_token.specs.declared.token.Token.{Token}
use Rattle.moo_syntax_token.specs.declared.token.Spot.{Spot}
use Rattle.moo_syntax_token.specs.Tokens.{token_at}
use Rattle.moo_syntax_token.specs.Lexing
use Rattle.moo_syntax_token.specs.Lexing.{Ending, Place, outside, commented, Lexes, IsReading, begins_comment, ends_comment}
use Rattle.moo_syntax_token.proofs.TokenLengths.{token_length}
use Rattle.moo_syntax.specs.Programs.{text_length}

-- a comment that is never closed has a token of its own
abbrev slack : Place → ℕ
slack outside = 0
slack (commented n) = 1

opening_length : (bs : List ℕ) → begins_comment bs ≡ true → 2 ≤ length bs
unfolding begins_comment
opening_length [] h = absurd cc
opening_length (a ∷ []) h = absurd cc
opening_length (a ∷ b ∷ bs) h = omega arith

closing_length : (bs : List ℕ) → ends_comment bs ≡ true → 2 ≤ length bs
unfolding ends_comment
closing_length [] h = absurd cc
closing_length (a ∷ []) h = absurd cc
closing_length (a ∷ b ∷ bs) h = omega arith

token_shortens : (bs : List ℕ) (x : Token) (k : ℕ) → token_at bs ≡ Some (x, k) → length (drop k bs) + 1 ≤ length bs
unfolding token_at
token_shortens [] x k e = absurd cc
token_shortens (b ∷ bs) x k e = omega (arith, length-drop k (b ∷ bs), token_length (b ∷ bs) x k e)

within : {e : Ending} {p : Place} {n : ℕ} {bs : List ℕ} {below : List (List ℕ)} {ts : List Spot} → Lexes e p n bs below ts → length ts ≤ length bs + text_length below + slack p
within Lexing.text_end = omega arith
within (Lexing.line_end {line = line} {below = below} d) = omega (arith, within d, sum_by-cons length line below)
within (Lexing.blank {bs = bs} h d) = omega (arith, within d, length-drop 1 bs)
within (Lexing.token {bs = bs} {x = x} {k = k} h i d) = omega (arith, within d, token_shortens bs x k i)
within (Lexing.comment {bs = bs} h d) = omega (arith, within d, length-drop 2 bs, opening_length bs h)
within (Lexing.comment_goes_on h d) = omega (arith, within d)
within (Lexing.comment_end {bs = bs} h d) = omega (arith, within d, length-drop 2 bs)
within (Lexing.no_token h i j) = omega arith
within Lexing.never_closed = omega arith

pub tokens_within : (lines : List (List ℕ)) (spots : List Spot) → IsReading lines spots → length spots ≤ text_length lines
tokens_within lines spots r = omega (arith, within r.lexes)

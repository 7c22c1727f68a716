-- Texts outside the limits.
use Rattle.std.proofs.Common.{ℕ, ◌≤◌, ◌<◌, ◌+◌, List, [], ◌∷◌, ◌++◌, ◌≡◌, ◌⊎◌, inl, inr, subst, length, take, drop, arith}
use Rattle.moo_syntax_token.specs.declared.token.Token.{Token}
use Rattle.moo_syntax_token.specs.declared.token.Token.TheVariants as token
use Rattle.moo_syntax_token.specs.declared.sign.Sign.TheVariants as sign
use Rattle.moo_syntax_token.specs.declared.token.Spot.{Spot}
use Rattle.moo_syntax_token.specs.Lexing.{IsReading}
use Rattle.moo_syntax_ast.specs.Tree.{Block}
use Rattle.moo_syntax_ast.specs.Limits.{AllFit, most_nodes, most_brackets}
use Rattle.moo_syntax_ast.specs.Listing.{listing}
use Rattle.moo_syntax_grammar.specs.declared.names.Names.{Names}
use Rattle.moo_syntax_grammar.specs.Rules.{strict}
use Rattle.moo_syntax_grammar.specs.Tokens.{words}
use Rattle.moo_syntax_grammar.specs.Brackets.{open_after, most_open_after, most_open}
use Rattle.moo_syntax_grammar.specs.Grammar.{IsProgram}
use Rattle.moo_syntax_grammar.proofs.Unique.{one_program}
use Rattle.moo_syntax.specs.Programs.{IsTooDeep, HasLongLine, by_bracket, by_nodes, by_line, line_of, text_length}
use Rattle.moo_syntax.specs.Stops.{ExceedLimits}
use Rattle.moo_syntax.proofs.TextLengths.{tokens_within}
use Rattle.moo_syntax.proofs.Words.{words_length, words_parts}

one_more_open : (n : ℕ) (x : Token) → open_after n x ≤ n + 1
one_more_open n (token.Sign sign.LeftParen) = omega arith
one_more_open n (token.Sign sign.LeftBracket) = omega arith
one_more_open n (token.Sign sign.LeftBrace) = omega arith
one_more_open n (token.Sign sign.RightParen) = omega arith
one_more_open n (token.Sign sign.RightBracket) = omega arith
one_more_open n (token.Sign sign.RightBrace) = omega arith
one_more_open n _ = omega arith

open_within : (n : ℕ) (ts : List Token) → most_open_after n ts ≤ n + length ts
open_within n [] = omega arith
open_within n (x ∷ ts) = omega (arith, open_within (open_after n x) ts, one_more_open n x)

open_from : (n : ℕ) (ts : List Token) → n ≤ most_open_after n ts
open_from n [] = omega arith
open_from n (x ∷ ts) = omega arith

open_in_front : (n : ℕ) (ts us : List Token) → most_open_after n ts ≤ most_open_after n (ts ++ us)
open_in_front n [] us = open_from n us
open_in_front n (x ∷ ts) us = omega (arith, open_in_front (open_after n x) ts us)

-- as many are open somewhere in the text as before a place
open_before : (n : ℕ) (spots : List Spot) → most_open (words (take n spots)) ≤ most_open (words spots)
open_before n spots = subst (λ v. most_open (words (take n spots)) ≤ most_open v) (words_parts n spots) (open_in_front 0 (words (take n spots)) (words (drop n spots)))

pub exceed_by_bracket : (names : Names) (spots : List Spot) (at : ℕ) → at < length spots → most_open (words (take at spots)) ≤ most_brackets → most_brackets < most_open (words (take (at + 1) spots)) → ExceedLimits names spots at
exceed_by_bracket names spots at i b h = record {
  within = omega arith;
  outside = λ c e l. omega (arith, h, open_before (at + 1) spots, l.brackets);
  exceeds = by_bracket b h;
}

-- the lines of the tokens' program don't fit
pub exceed_by_lines : (names : Names) (spots : List Spot) (at : ℕ) (b : Block) → at ≡ length spots → IsProgram names (words spots) b → (AllFit (listing b) → ⊥) → ExceedLimits names spots at
exceed_by_lines names spots at b e d none = record {
  within = omega arith;
  outside = λ c f w. none (subst (λ v. AllFit (listing v)) (one_program (strict names) (words spots) c b f d) w.program.lines);
  exceeds = by_line e (record { tree = b; program = d; long = none });
}

pub too_deep : (names : Names) (lines : List (List ℕ)) (spots : List Spot) (at n : ℕ) → IsReading lines spots → ExceedLimits names spots at → n ≡ line_of lines (drop at spots) → IsTooDeep names lines n
too_deep names lines spots at n r x e = record {
  spots = spots;
  reading = r;
  at = at;
  within = x.within;
  line = e;
  outside = x.outside;
  exceeds = x.exceeds;
}

-- a text that is too deep is long, or has a long line in its listing
pub long_or_wide : (names : Names) (lines : List (List ℕ)) (n : ℕ) (f : IsTooDeep names lines n) → (most_nodes < text_length lines) ⊎ HasLongLine names (words f.spots)
long_or_wide names lines n f =
    elim f.exceeds [
      | by_bracket b h ↦ inl (omega (arith, h, open_before (f.at + 1) f.spots, open_within 0 (words f.spots), words_length f.spots, tokens_within lines f.spots f.reading))
      | by_nodes h each some ↦ inl (omega (arith, h, f.within, tokens_within lines f.spots f.reading))
      | by_line e l ↦ inr l
    ]

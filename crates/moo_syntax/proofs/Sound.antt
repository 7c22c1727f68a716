-- The program of all tokens that are read is the text's.
use Rattle.std.proofs.Common.{ℕ, List, [], ◌∷◌, ◌++◌, subst, ⊎_elim}
use Rattle.moo_syntax_token.specs.declared.token.Token.TheVariants as token
use Rattle.moo_syntax_token.specs.declared.token.Spot.{Spot}
use Rattle.moo_syntax_token.specs.Lexing.{IsTokens, IsReading}
use Rattle.moo_syntax_token.proofs.Readings.{tokens_or_bad}
use Rattle.moo_syntax_ast.specs.Tree.{Block}
use Rattle.moo_syntax_grammar.specs.Tokens.{words}
use Rattle.moo_syntax_grammar.specs.declared.names.Names.{Names}
use Rattle.moo_syntax_grammar.proofs.Sound.{AllSound, sound}
use Rattle.moo_syntax_grammar.specs.Grammar.{IsProgram}
use Rattle.moo_syntax_grammar.specs.Texts.{IsParsed, HasText}
use Rattle.moo_syntax_grammar.proofs.Admitted.{program_under_any_names}
use Rattle.moo_syntax.specs.Stops.{IsWhole}

no_bad : (front : List Spot) (n : ℕ) → AllSound (words (front ++ record { token = token.Bad; line = n } ∷ [])) → ⊥
no_bad [] n h = let e = h.0 in absurd cc
no_bad (s ∷ front) n h = no_bad front n h.1

-- the tokens of a program are those of the text
pub all_tokens : (names : Names) (lines : List (List ℕ)) (spots : List Spot) (b : Block) → IsReading lines spots → IsProgram names (words spots) b → IsTokens lines spots
all_tokens names lines spots b r d =
    ⊎_elim (λ t. t.0) (λ f. absurd (no_bad f.1.before f.1.line (subst (λ v. AllSound (words v)) f.1.is (sound d tt)))) (tokens_or_bad lines spots r)

pub parsed : (names : Names) (lines : List (List ℕ)) (spots : List Spot) (b : Block) → IsReading lines spots → IsWhole names (words spots) b → IsParsed names lines b
parsed names lines spots b r w = record { spots = spots; tokens = all_tokens names lines spots b r w.program; program = w.program; limits = w.limits }

pub has_text : (names : Names) (lines : List (List ℕ)) (spots : List Spot) (b : Block) → IsReading lines spots → IsWhole names (words spots) b → HasText b
has_text names lines spots b r w = record {
  lines = lines;
  program = program_under_any_names names lines b (record { spots = spots; tokens = all_tokens names lines spots b r w.program; program = w.program });
}

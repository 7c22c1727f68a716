-- Tokens are at most one program.
use Rattle.std.proofs.Common.{ℕ, List, ◌≡◌, refl, subst}
use Rattle.moo_syntax_token.specs.declared.token.Token.{Token}
use Rattle.moo_syntax_ast.specs.Tree.{Block}
use Rattle.moo_syntax_token.proofs.Readings.{one_token_list}
use Rattle.moo_syntax_grammar.specs.declared.names.Names.{Names}
use Rattle.moo_syntax_grammar.specs.Rules.{Rules, strict}
use Rattle.moo_syntax_grammar.specs.Tokens.{words}
use Rattle.moo_syntax_grammar.specs.Texts.{IsProgramOf}
use Rattle.moo_syntax_grammar.specs.Grammar.{IsProgram, IsProgramBy}
use Rattle.moo_syntax_grammar.specs.Predictive.{grammar}
use Rattle.moo_syntax_grammar.proofs.MachineLemmas.{reads_once}
use Rattle.moo_syntax_grammar.proofs.Complete.{complete}

pub one_program : (g : Rules) (ts : List Token) (b c : Block) → IsProgramBy g ts b → IsProgramBy g ts c → b ≡ c
one_program g ts b c d e = (reads_once (grammar g) (complete d refl) (complete e refl)).0

pub one_program_of_text : (names : Names) (lines : List (List ℕ)) (b c : Block) → IsProgramOf names lines b → IsProgramOf names lines c → b ≡ c
one_program_of_text names lines b c p q =
    let same = one_token_list lines p.spots q.spots p.tokens q.tokens in
    one_program (strict names) (words q.spots) b c (subst (λ v. IsProgram names (words v) b) same p.program) q.program

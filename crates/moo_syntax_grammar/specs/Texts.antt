-- The program of a text.
use Rattle.std.specs.Prelude.{ℕ, List, ◌≤◌}
use Rattle.moo_syntax_token.specs.declared.token.Token.{Token}
use Rattle.moo_syntax_token.specs.declared.token.Spot.{Spot}
use Rattle.moo_syntax_token.specs.Lexing.{IsTokens}
use Rattle.moo_syntax_ast.specs.Tree.{Block}
use Rattle.moo_syntax_ast.specs.Limits.{IsWithinLimits, most_brackets}
use Rattle.moo_syntax_grammar.specs.declared.names.Names.{Names}
use Rattle.moo_syntax_grammar.specs.declared.names.Names.TheVariants.{Any}
use Rattle.moo_syntax_grammar.specs.Brackets.{most_open}
use Rattle.moo_syntax_grammar.specs.Tokens.{words}
use Rattle.moo_syntax_grammar.specs.Grammar.{IsProgram}

-- the text of these lines has tokens, and they are the program
pub record IsProgramOf (names : Names) (lines : List (List ℕ)) (b : Block) : Type 0 where
  pub spots : List Spot
  pub tokens : IsTokens lines spots
  pub program : IsProgram names (words spots) b

-- some text is the program, whichever functions it calls
pub record HasText (b : Block) : Type 0 where
  pub lines : List (List ℕ)
  pub program : IsProgramOf Any lines b

-- the program, and the brackets of its source, are within the limits
pub record IsWithin (ts : List Token) (b : Block) : Type 0 where
  pub brackets : most_open ts ≤ most_brackets
  pub program : IsWithinLimits b

-- the text is the program, within the limits
pub record IsParsed (names : Names) (lines : List (List ℕ)) (b : Block) : Type 0 where
  pub spots : List Spot
  pub tokens : IsTokens lines spots
  pub program : IsProgram names (words spots) b
  pub limits : IsWithin (words spots) b

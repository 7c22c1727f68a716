-- Runs of minuses before an operand.
use Rattle.std.specs.Prelude.{ℕ, suc, zero, List, ◌∷◌}
use Rattle.moo_syntax_token.specs.declared.sign.Sign.TheVariants.{Minus}
use Rattle.moo_syntax_token.specs.declared.token.Token.{Token}
use Rattle.moo_syntax_token.specs.declared.token.Token.TheVariants.{Sign}
use Rattle.moo_syntax_ast.specs.Tree.{Expr}
use Rattle.moo_syntax_grammar.specs.Grammar.{negated}

-- n minuses before other tokens
abbrev pub minuses : ℕ → List Token → List Token
minuses zero ts = ts
minuses (suc n) ts = Sign Minus ∷ minuses n ts

-- n minuses before an expression
abbrev pub negations : ℕ → Expr → Expr
negations zero e = e
negations (suc n) e = negated (negations n e)

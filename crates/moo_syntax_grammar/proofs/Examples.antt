-- A phrase of each kind, by the loose grammar.
use Rattle.std.proofs.Common.{List, ◌∷◌, refl, Bool, false, None, pos}
use Rattle.moo_syntax_token.specs.declared.sign.Sign.TheVariants as sign
use Rattle.moo_syntax_token.specs.declared.keyword.Keyword.TheVariants as keyword
use Rattle.moo_syntax_token.specs.declared.token.Token.{Token}
use Rattle.moo_syntax_token.specs.declared.token.Token.TheVariants as token
use Rattle.moo_syntax_ast.specs.declared.tree.Literal.TheVariants as literal
use Rattle.moo_syntax_ast.specs.Tree as tree
use Rattle.moo_syntax_ast.specs.Tree.{Expr}
use Rattle.moo_syntax_grammar.specs.declared.level.Level.{Level}
use Rattle.moo_syntax_grammar.specs.declared.level.Level.TheVariants.{Logic, Relation, Sum, Product}
use Rattle.moo_syntax_grammar.specs.Rules.{loose}
use Rattle.moo_syntax_grammar.specs.Grammar
use Rattle.moo_syntax_grammar.specs.Grammar.{Of, Kind, Derives, sort}
use Rattle.moo_syntax_grammar.proofs.Endings.{after}

-- an operand that is allowed everywhere
abbrev pub zero_token : Token
zero_token = token.Integer (pos 0)

abbrev pub zero : Expr
zero = tree.literal (literal.Integer (pos 0))

a_power : (i : Bool) (r : List Token) → Derives loose (Grammar.power i) (zero_token ∷ r) zero r
a_power i r = Grammar.unraised (Grammar.unsigned (Grammar.based (Grammar.constant refl) Grammar.no_suffix))

an_operand : (i : Bool) (l : Level) (r : List Token) → Derives loose (Grammar.operand i l) (zero_token ∷ r) zero r
an_operand i Product r = Grammar.powers (a_power i r)
an_operand i Sum r = Grammar.products (Grammar.chained (Grammar.powers (a_power i r)) Grammar.no_more)
an_operand i Relation r = Grammar.sums (Grammar.chained (Grammar.products (Grammar.chained (Grammar.powers (a_power i r)) Grammar.no_more)) Grammar.no_more)
an_operand i Logic r = Grammar.relations (Grammar.chained (Grammar.sums (Grammar.chained (Grammar.products (Grammar.chained (Grammar.powers (a_power i r)) Grammar.no_more)) Grammar.no_more)) Grammar.no_more)

a_chain : (i : Bool) (l : Level) (r : List Token) → Derives loose (Grammar.chain i l) (zero_token ∷ r) zero r
a_chain i l r = Grammar.chained (an_operand i l r) Grammar.no_more

pub a_conditional : (i : Bool) (r : List Token) → Derives loose (Grammar.conditional i) (zero_token ∷ r) zero r
a_conditional i r = Grammar.unconditional (a_chain i Logic r)

pub an_expression : (i : Bool) (r : List Token) → Derives loose (Grammar.expression i) (zero_token ∷ r) zero r
an_expression i r = Grammar.plain (a_conditional i r)

-- tokens before each rest that are a phrase of the kind
pub record Example (k : Kind) : Type 0 where
  pub tokens : List Token → List Token
  pub given : Of (sort k)
  pub holds : (r : List Token) → Derives loose k (tokens r) given (after k r)

pub example : (k : Kind) → Example k
example (Grammar.expression i) = record { tokens = λ r. zero_token ∷ r; given = zero; holds = λ r. an_expression i r }
example (Grammar.conditional i) = record { tokens = λ r. zero_token ∷ token.Sign sign.Assign ∷ r; given = zero; holds = λ r. a_conditional i _ }
example (Grammar.chain i l) = record { tokens = λ r. zero_token ∷ token.Sign sign.Assign ∷ r; given = zero; holds = λ r. a_chain i l _ }
example (Grammar.more i l a) = record { tokens = λ r. token.Sign sign.Assign ∷ r; given = a; holds = λ r. Grammar.no_more }
example (Grammar.operand i l) = record { tokens = λ r. zero_token ∷ token.Sign sign.Assign ∷ r; given = zero; holds = λ r. an_operand i l _ }
example (Grammar.power i) = record { tokens = λ r. zero_token ∷ token.Sign sign.Assign ∷ r; given = zero; holds = λ r. a_power i _ }
example (Grammar.unary i) = record { tokens = λ r. zero_token ∷ token.Sign sign.Assign ∷ r; given = zero; holds = λ r. Grammar.unsigned (Grammar.based (Grammar.constant refl) Grammar.no_suffix) }
example (Grammar.postfix i) = record { tokens = λ r. zero_token ∷ token.Sign sign.Assign ∷ r; given = zero; holds = λ r. Grammar.based (Grammar.constant refl) Grammar.no_suffix }
example (Grammar.suffixes i a) = record { tokens = λ r. token.Sign sign.Assign ∷ r; given = a; holds = λ r. Grammar.no_suffix }
example (Grammar.primary i) = record { tokens = λ r. zero_token ∷ token.Sign sign.Assign ∷ r; given = zero; holds = λ r. Grammar.constant refl }
example (Grammar.arguments i o) = record { tokens = λ r. r; given = tree.no_items; holds = λ r. Grammar.no_arguments }
example (Grammar.members i o) = record { tokens = λ r. zero_token ∷ r; given = tree.element zero tree.no_items; holds = λ r. Grammar.one_element (an_expression i r) }
example (Grammar.codes i) = record { tokens = λ r. token.Keyword keyword.Any ∷ r; given = tree.any_error; holds = λ r. Grammar.any_code }
example (Grammar.statement ls) = record { tokens = λ r. token.Keyword keyword.Return ∷ token.Sign sign.Semicolon ∷ r; given = tree.return_nothing; holds = λ r. Grammar.returns_nothing }
example (Grammar.statements ls) = record { tokens = λ r. r; given = tree.no_statement; holds = λ r. Grammar.no_statements }
example (Grammar.arms ls) = record { tokens = λ r. r; given = tree.no_else; holds = λ r. Grammar.no_arms }
example (Grammar.handlers ls) = record {
  tokens = λ r. token.Keyword keyword.Except ∷ token.Sign sign.LeftParen ∷ token.Keyword keyword.Any ∷ token.Sign sign.RightParen ∷ r;
  given = tree.handler None tree.any_error tree.no_statement tree.no_handler;
  holds = λ r. Grammar.one_handler Grammar.unlabelled Grammar.any_code Grammar.no_statements;
}
example Grammar.label = record { tokens = λ r. r; given = None; holds = λ r. Grammar.unlabelled }
example Grammar.in_parens = record { tokens = λ r. token.Sign sign.LeftParen ∷ zero_token ∷ token.Sign sign.RightParen ∷ r; given = zero; holds = λ r. Grammar.parenthesized (an_expression false _) }

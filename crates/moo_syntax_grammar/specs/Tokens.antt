-- The meaning of a token in the grammar.
use Rattle.std.specs.Prelude.{ℕ, List, [], ◌∷◌, Bool, true, false, Option, Some, None, map}
use denote.Enum.Bare.{sameb}
use Rattle.moo_syntax_token.specs.contracts.sign.Sign as sign
use Rattle.moo_syntax_token.specs.declared.sign.Sign.{Sign}
use Rattle.moo_syntax_token.specs.declared.sign.Sign.TheVariants.{OrOr, AndAnd, Equal, NotEqual, Less, LessEqual, Greater, GreaterEqual, Plus, Minus, Star, Slash, Percent}
use Rattle.moo_syntax_token.specs.contracts.keyword.Keyword as keyword
use Rattle.moo_syntax_token.specs.declared.keyword.Keyword.{Keyword}
use Rattle.moo_syntax_token.specs.declared.keyword.Keyword.TheVariants.{In}
use Rattle.moo_syntax_token.specs.declared.token.Token.{Token}
use Rattle.moo_syntax_token.specs.declared.token.Token.TheVariants as token
use Rattle.moo_syntax_token.specs.declared.token.Spot.{Spot}
use Rattle.moo_syntax_ast.specs.declared.operator.BinaryOperator.TheVariants as binary
use Rattle.moo_syntax_ast.specs.declared.operator.LogicOperator.TheVariants as logic
use Rattle.moo_syntax_ast.specs.declared.tree.Literal.{Literal}
use Rattle.moo_syntax_ast.specs.declared.tree.Literal.TheVariants as literal
use Rattle.moo_syntax_grammar.specs.declared.level.Level.{Level}
use Rattle.moo_syntax_grammar.specs.declared.level.Level.TheVariants.{Logic, Relation, Sum, Product}
use Rattle.moo_syntax_grammar.specs.declared.level.Operator.{Operator}
use Rattle.moo_syntax_grammar.specs.declared.level.Operator.TheVariants as operator

-- the tokens, without their lines
abbrev pub words : List Spot → List Token
words spots = map (λ s. s.token) spots

-- whether the token is this sign
abbrev pub is_sign : Sign → Token → Bool
is_sign s (token.Sign t) = sameb sign.the_type t s
is_sign s _ = false

-- whether the token is this keyword
abbrev pub is_keyword : Keyword → Token → Bool
is_keyword k (token.Keyword l) = sameb keyword.the_type l k
is_keyword k _ = false

-- the literal that a token is
abbrev pub literal_at : Token → Option Literal
literal_at (token.Integer n) = Some (literal.Integer n)
literal_at (token.Object n) = Some (literal.Object n)
literal_at (token.Error e) = Some (literal.Error e)
literal_at (token.Str s) = Some (literal.Str s)
literal_at _ = None

-- the name that a token is
abbrev pub name_at : Token → Option (List ℕ)
name_at (token.Name s) = Some s
name_at _ = None

-- the operator that a sign is at this level
abbrev pub sign_operator : Level → Sign → Option Operator
sign_operator Logic AndAnd = Some (operator.Logic logic.And)
sign_operator Logic OrOr = Some (operator.Logic logic.Or)
sign_operator Relation Equal = Some (operator.Binary binary.Equal)
sign_operator Relation NotEqual = Some (operator.Binary binary.NotEqual)
sign_operator Relation Less = Some (operator.Binary binary.Less)
sign_operator Relation LessEqual = Some (operator.Binary binary.LessOrEqual)
sign_operator Relation Greater = Some (operator.Binary binary.Greater)
sign_operator Relation GreaterEqual = Some (operator.Binary binary.GreaterOrEqual)
sign_operator Sum Plus = Some (operator.Binary binary.Add)
sign_operator Sum Minus = Some (operator.Binary binary.Subtract)
sign_operator Product Star = Some (operator.Binary binary.Multiply)
sign_operator Product Slash = Some (operator.Binary binary.Divide)
sign_operator Product Percent = Some (operator.Binary binary.Remainder)
sign_operator _ _ = None

-- the operator that a token is at this level
abbrev pub operator_at : Level → Token → Option Operator
operator_at l (token.Sign s) = sign_operator l s
operator_at Relation (token.Keyword In) = Some (operator.Binary binary.In)
operator_at _ _ = None

-- whether the token is `Bad`
abbrev pub is_bad : Token → Bool
is_bad token.Bad = true
is_bad _ = false

-- whether a token comes next, and passes the test
abbrev pub next_passes : (Token → Bool) → List Token → Bool
next_passes f [] = false
next_passes f (x ∷ ts) = f x

-- The tokens that a cursor has still to read, and the effects of its steps.
use Rattle.std.specs.Prelude.{ℕ, List, ◌∷◌, ◌≡◌, ◌+◌, Bool, true, false, drop, Some}
use Rattle.moo_syntax_token.specs.declared.sign.Sign.TheVariants.{Minus}
use Rattle.moo_syntax_token.specs.declared.token.Token.{Token}
use Rattle.moo_syntax_ast.specs.declared.tree.Literal.{Literal}
use Rattle.moo_syntax.specs.declared.cursor.Cursor.{Cursor}
use Rattle.moo_syntax_grammar.specs.declared.level.Level.{Level}
use Rattle.moo_syntax_grammar.specs.declared.level.Operator.{Operator}
use Rattle.moo_syntax_grammar.specs.Minuses.{minuses}
use Rattle.moo_syntax_grammar.specs.Tokens.{next_passes, words, is_sign, operator_at, literal_at}

abbrev pub left : Cursor → List Token
left c = words (drop c.at c.spots.now)

-- the token came next, and was taken
pub record Takes (x : Token) (old new : Cursor) : Type 0 where
  pub token : left old ≡ x ∷ left new
  pub at : new.at ≡ old.at + 1
  pub spots : new.spots.now ≡ old.spots.now

-- no token that passes the test came next, and nothing was taken
pub record Stays (f : Token → Bool) (old new : Cursor) : Type 0 where
  pub other : next_passes f (left old) ≡ false
  pub rest : left new ≡ left old
  pub at : new.at ≡ old.at
  pub spots : new.spots.now ≡ old.spots.now

-- if such a token is allowed, none that passes the test came next; and nothing was taken
pub record StaysUnless (may_stand : Bool) (f : Token → Bool) (old new : Cursor) : Type 0 where
  pub other : may_stand ≡ true → next_passes f (left old) ≡ false
  pub rest : left new ≡ left old
  pub at : new.at ≡ old.at
  pub spots : new.spots.now ≡ old.spots.now

-- an operator of the level came next, and was taken
abbrev pub TakesOperator : Level → Operator → Cursor → Cursor → Type 0
TakesOperator l o old new = (x : Token) × (operator_at l x ≡ Some o) × Takes x old new

-- a literal came next, and was taken
abbrev pub TakesLiteral : Literal → Cursor → Cursor → Type 0
TakesLiteral l old new = (x : Token) × (literal_at x ≡ Some l) × Takes x old new

-- so many minuses came next, and were taken; no further one comes
pub record TakesMinuses (n : ℕ) (old new : Cursor) : Type 0 where
  pub tokens : left old ≡ minuses n (left new)
  pub other : next_passes (is_sign Minus) (left new) ≡ false
  pub at : new.at ≡ old.at + n
  pub spots : new.spots.now ≡ old.spots.now

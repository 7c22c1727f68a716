-- Places of a text at which a rule may be broken.
use Rattle.std.specs.Prelude.{ℕ, List, ◌∷◌, ◌≡◌, ◌+◌, ◌||◌, Bool, true, drop}
use Rattle.moo_syntax_token.specs.declared.sign.Sign.TheVariants.{LeftParen}
use Rattle.moo_syntax_token.specs.declared.keyword.Keyword.TheVariants.{Break, Continue}
use Rattle.moo_syntax_token.specs.declared.token.Token.{Token}
use Rattle.moo_syntax_token.specs.declared.token.Token.TheVariants.{Name, Sign}
use Rattle.moo_syntax_token.specs.declared.token.Spot.{Spot}
use Rattle.moo_syntax_grammar.specs.Tokens.{words, is_keyword, next_passes}

-- the name is before the place, and a parenthesis at it
pub record IsCalled (spots : List Spot) (at : ℕ) (name : List ℕ) : Type 0 where
  pub before : ℕ
  pub place : at ≡ before + 1
  pub rest : List Token
  pub called : words (drop before spots) ≡ Name name ∷ Sign LeftParen ∷ rest

-- whether the token is `break` or `continue`
abbrev pub is_jump : Token → Bool
is_jump x = is_keyword Break x || is_keyword Continue x

-- a `break` or a `continue` is at the place, or the name after one
pub data IsJump (spots : List Spot) : ℕ → Type 0 where
  at_keyword : {at : ℕ} → next_passes is_jump (words (drop at spots)) ≡ true → IsJump spots at
  at_name : (before : ℕ) {x : Token} {name : List ℕ} {rest : List Token} → is_jump x ≡ true → words (drop before spots) ≡ x ∷ Name name ∷ rest → IsJump spots (before + 1)

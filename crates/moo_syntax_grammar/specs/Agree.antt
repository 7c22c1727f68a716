-- Two token lists that agree from their beginnings up to a place.
use Rattle.std.specs.Prelude.{List, [], ◌∷◌}
use Rattle.moo_syntax_token.specs.declared.token.Token.{Token}

-- The lists agree up to and including the first token of `at`, which is an end of the first list. The end of a text
-- counts as a token.
pub data Agree : List Token → List Token → List Token → Type 0 where
  at_end : Agree [] [] []
  here : {x : Token} {ts us : List Token} → Agree (x ∷ ts) (x ∷ ts) (x ∷ us)
  next : {x : Token} {at ts us : List Token} → Agree at ts us → Agree at (x ∷ ts) (x ∷ us)

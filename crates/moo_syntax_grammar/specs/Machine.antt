-- How a predictive parser reads: at each place it takes a token that passes a test, or reads a phrase, or stops.
use Rattle.std.specs.Prelude.{List, ◌∷◌, ◌≡◌, Bool, true, false}
use Rattle.moo_syntax_token.specs.declared.token.Token.{Token}
use Rattle.moo_syntax_grammar.specs.Grammar.{Sort, Of, Kind, sort}
use Rattle.moo_syntax_grammar.specs.Tokens.{next_passes}

pub data Reading : Sort → Type 0 where
  -- the tree is complete
  give : {s : Sort} → Of s → Reading s
  -- no token is possible here
  refuse : {s : Sort} → Reading s
  -- the next token is possible here, but breaks a rule
  forbid : {s : Sort} → Reading s
  -- takes the next token
  take : {s : Sort} → (Token → Reading s) → Reading s
  -- continues with the first reading if the next token passes the test, else with the second
  peek : {s : Sort} → (Token → Bool) → Reading s → Reading s → Reading s
  phrase : {s : Sort} → (k : Kind) → (Of (sort k) → Reading s) → Reading s

-- why a reading stops: no token is possible there, or a rule is broken
pub data Why : Type 0 where
  by_form : Why
  by_rule : Why

module _ (grammar : (k : Kind) → Reading (sort k)) where
  -- the reading comes to its end with this tree, and leaves r
  pub data Reads : (s : Sort) → Reading s → List Token → Of s → List Token → Type 0 where
    gives : {s : Sort} {e : Of s} {r : List Token} → Reads s (give e) r e r
    takes : {s : Sort} {p : Token → Reading s} {x : Token} {ts r : List Token} {e : Of s} → Reads s (p x) ts e r → Reads s (take p) (x ∷ ts) e r
    sees : {s : Sort} {f : Token → Bool} {p q : Reading s} {ts r : List Token} {e : Of s} → next_passes f ts ≡ true → Reads s p ts e r → Reads s (peek f p q) ts e r
    misses : {s : Sort} {f : Token → Bool} {p q : Reading s} {ts r : List Token} {e : Of s} → next_passes f ts ≡ false → Reads s q ts e r → Reads s (peek f p q) ts e r
    reads : {s : Sort} {k : Kind} {p : Of (sort k) → Reading s} {ts m r : List Token} {a : Of (sort k)} {e : Of s} → Reads (sort k) (grammar k) ts a m → Reads s (p a) m e r → Reads s (phrase k p) ts e r

  -- the reading stops when r is left
  pub data Fails : Why → (s : Sort) → Reading s → List Token → List Token → Type 0 where
    refuses : {s : Sort} {r : List Token} → Fails by_form s (refuse {s = s}) r r
    forbids : {s : Sort} {r : List Token} → Fails by_rule s (forbid {s = s}) r r
    takes_fails : {w : Why} {s : Sort} {p : Token → Reading s} {x : Token} {ts r : List Token} → Fails w s (p x) ts r → Fails w s (take p) (x ∷ ts) r
    sees_fails : {w : Why} {s : Sort} {f : Token → Bool} {p q : Reading s} {ts r : List Token} → next_passes f ts ≡ true → Fails w s p ts r → Fails w s (peek f p q) ts r
    misses_fails : {w : Why} {s : Sort} {f : Token → Bool} {p q : Reading s} {ts r : List Token} → next_passes f ts ≡ false → Fails w s q ts r → Fails w s (peek f p q) ts r
    phrase_fails : {w : Why} {s : Sort} {k : Kind} {p : Of (sort k) → Reading s} {ts r : List Token} → Fails w (sort k) (grammar k) ts r → Fails w s (phrase k p) ts r
    then_fails : {w : Why} {s : Sort} {k : Kind} {p : Of (sort k) → Reading s} {ts m r : List Token} {a : Of (sort k)} → Reads (sort k) (grammar k) ts a m → Fails w s (p a) m r → Fails w s (phrase k p) ts r

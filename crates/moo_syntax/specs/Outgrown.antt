-- Readings whose tree is certain to be too high, by the tokens that were taken.
use Rattle.std.specs.Prelude.{ℕ, List, ◌∷◌, ◌≡◌, Bool, true, false, nat_lt, Option, Some, None}
use Rattle.moo_syntax_token.specs.declared.token.Token.{Token}
use Rattle.moo_syntax_grammar.specs.Rules.{Rules}
use Rattle.moo_syntax_grammar.specs.Grammar.{Sort, Of, Kind, sort}
use Rattle.moo_syntax_grammar.specs.Machine.{Reading, give, forbid, take, peek, phrase, Reads}
use Rattle.moo_syntax_grammar.specs.Tokens.{next_passes}
use Rattle.moo_syntax_grammar.specs.Predictive.{grammar}
use Rattle.moo_syntax_grammar.specs.Size.{size}
use Rattle.moo_syntax_grammar.specs.Depth.{Deep}

-- whether the tree is higher than n
abbrev pub over : ℕ → (s : Sort) → Of s → Bool
over n s e = nat_lt n (size s e)

-- Some tokens end the reading, or bring it to a place where only a rule stops it. The first of them is given if it
-- matters.
pub data CanEnd : (s : Sort) → Reading s → Option Token → Type 0 where
  can_give : {s : Sort} {e : Of s} → CanEnd s (give e) None
  can_read : {s : Sort} {k : Kind} {p : Of (sort k) → Reading s} → CanEnd s (phrase k p) None
  can_take : {s : Sort} {f : Token → Bool} {p : Token → Reading s} {q : Reading s} {o : Option Token} (x : Token) → f x ≡ true → CanEnd s (p x) o → CanEnd s (peek f (take p) q) (Some x)
  can_stop : {s : Sort} {f : Token → Bool} {q : Reading s} (x : Token) → f x ≡ true → CanEnd s (peek f forbid q) (Some x)
  can_miss : {s : Sort} {f : Token → Bool} {p q : Reading s} {x : Token} → f x ≡ false → CanEnd s q (Some x) → CanEnd s (peek f p q) (Some x)

-- every result of the reading, on any tokens, passes the test
abbrev pub AllPass : Rules → (s : Sort) → (Of s → Bool) → Reading s → Type 0
AllPass g s test p = (ts : List Token) (e : Of s) (r : List Token) → Reads (grammar g) s p ts e r → test e ≡ true

-- `at` begins with the last token that was taken. Whatever follows it, the result of the reading passes the test.
pub data Certain (g : Rules) : (s : Sort) → (Of s → Bool) → Reading s → List Token → List Token → Type 0 where
  -- whatever follows the token that is taken
  ends : {s : Sort} {test : Of s → Bool} {f : Token → Bool} {p : Token → Reading s} {q : Reading s} {x : Token} {ts : List Token} {o : Option Token} → f x ≡ true → CanEnd s (p x) o → AllPass g s test (p x) → Certain g s test (peek f (take p) q) (x ∷ ts) (x ∷ ts)
  takes : {s : Sort} {test : Of s → Bool} {f : Token → Bool} {p : Token → Reading s} {q : Reading s} {x : Token} {ts at : List Token} → f x ≡ true → Certain g s test (p x) ts at → Certain g s test (peek f (take p) q) (x ∷ ts) at
  sees : {s : Sort} {test : Of s → Bool} {f : Token → Bool} {p q : Reading s} {ts at : List Token} → next_passes f ts ≡ true → Certain g s test p ts at → Certain g s test (peek f p q) ts at
  misses : {s : Sort} {test : Of s → Bool} {f : Token → Bool} {p q : Reading s} {ts at : List Token} → next_passes f ts ≡ false → Certain g s test q ts at → Certain g s test (peek f p q) ts at
  -- a phrase whose tree passes a test, so that the whole tree passes this one
  part : {s : Sort} {test : Of s → Bool} {k : Kind} {inner : Of (sort k) → Bool} {p : Of (sort k) → Reading s} {ts at : List Token} → Certain g (sort k) inner (grammar g k) ts at → ((a : Of (sort k)) → inner a ≡ true → AllPass g s test (p a)) → Certain g s test (phrase k p) ts at
  -- after a phrase that was read
  after : {s : Sort} {test : Of s → Bool} {k : Kind} {p : Of (sort k) → Reading s} {ts m at : List Token} {a : Of (sort k)} → Reads (grammar g) (sort k) (grammar g k) ts a m → Certain g s test (p a) m at → Certain g s test (phrase k p) ts at

-- `at` begins with the last token that was taken, and whatever follows it, the tree is higher than n
abbrev pub Outgrows : Rules → (s : Sort) → ℕ → Reading s → List Token → List Token → Type 0
Outgrows g s n p ts at = Certain g s (over n s) p ts at

-- Before r, the tree is certain to be higher than n. The flag is true if a token was taken.
pub data Deepens (g : Rules) : Bool → (s : Sort) → ℕ → Reading s → List Token → List Token → Type 0 where
  at_once : {s : Sort} {n : ℕ} {p : Reading s} {ts : List Token} {o : Option Token} → CanEnd s p o → ((us : List Token) → Deep g s n p us) → Deepens g false s n p ts ts
  later : {b : Bool} {s : Sort} {n : ℕ} {p : Reading s} {ts r : List Token} (z : Token) → Outgrows g s n p ts (z ∷ r) → Deepens g b s n p ts r

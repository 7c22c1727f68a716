-- The steps that the parser's calls add to a reading that is certain to exceed its limit.
use Rattle.std.proofs.Common.{ℕ, ◌<◌, List, ◌∷◌, ◌≡◌, sym, subst, Bool, true, false, Option, Some}
use Rattle.moo_syntax_token.specs.declared.token.Token.{Token}
use Rattle.moo_syntax_grammar.specs.Tokens.{next_passes}
use Rattle.moo_syntax_grammar.specs.Rules.{Rules}
use Rattle.moo_syntax_grammar.specs.Grammar.{Sort, Of, Kind, sort}
use Rattle.moo_syntax_grammar.specs.Machine.{Reading, take, peek, phrase, Reads, reads}
use Rattle.moo_syntax_grammar.specs.Predictive.{grammar, allowed}
use Rattle.moo_syntax_grammar.specs.Size.{size}
use Rattle.moo_syntax_grammar.specs.Depth.{Deep}
use Rattle.moo_syntax_grammar.proofs.Depths.{Meets, meets_deep}
use Rattle.moo_syntax.specs.Outgrown.{over, CanEnd, can_read, can_take, can_stop, AllPass, Certain, ends, takes, sees, misses, part, after, Deepens, at_once, later}
use Rattle.moo_syntax.proofs.Outgrowing.{higher, is_higher}

-- a token that a rule may stop
pub can_rule : {s : Sort} {f : Token → Bool} (p : Token → Reading s) {q : Reading s} {o : Option Token} (b : Bool) (x : Token) → f x ≡ true → CanEnd s (p x) o → CanEnd s (peek f (allowed b (take p)) q) (Some x)
can_rule p true x h c = can_take x h c
can_rule p false x h c = can_stop x h

-- a test that passes whatever another one does
pub certain_more : {g : Rules} {s : Sort} {test more : Of s → Bool} {p : Reading s} {ts at : List Token} → ((e : Of s) → test e ≡ true → more e ≡ true) → Certain g s test p ts at → Certain g s more p ts at
certain_more w (ends h c all) = ends h c (λ ts e r d. w e (all ts e r d))
certain_more w (takes h c) = takes h (certain_more w c)
certain_more w (sees h c) = sees h (certain_more w c)
certain_more w (misses h c) = misses h (certain_more w c)
certain_more w (part c all) = part c (λ a h ts e r d. w e (all a h ts e r d))
certain_more w (after d c) = after d (certain_more w c)

module _ {g : Rules} {s : Sort} {n : ℕ} where
  -- the tree is certain to be too high, for a function that may stop before it takes a token
  pub at_any : {b : Bool} {p : Reading s} {ts r : List Token} → Deepens g true s n p ts r → Deepens g b s n p ts r
  at_any (later z c) = later z c

  pub deepens_from : {b : Bool} {p : Reading s} {ts us r : List Token} → ts ≡ us → Deepens g b s n p us r → Deepens g b s n p ts r
  deepens_from {b} {p} {r = r} is d = subst (λ v. Deepens g b s n p v r) (sym is) d

  -- where whatever the reading gives is too high
  pub meets_at_once : {p : Reading s} {o : Option Token} {ts : List Token} → CanEnd s p o → Meets s p (λ e. n < size s e) → Deepens g false s n p ts ts
  meets_at_once c m = at_once c (λ us. meets_deep m)

  pub sees_deepens : {f : Token → Bool} {p q : Reading s} {ts r : List Token} → next_passes f ts ≡ true → Deepens g true s n p ts r → Deepens g true s n (peek f p q) ts r
  sees_deepens h (later z c) = later z (sees h c)

  pub misses_deepens : {f : Token → Bool} {p q : Reading s} {ts r : List Token} → next_passes f ts ≡ false → Deepens g true s n q ts r → Deepens g true s n (peek f p q) ts r
  misses_deepens h (later z c) = later z (misses h c)

  all_deep : {p : Reading s} → ((us : List Token) → Deep g s n p us) → AllPass g s (over n s) p
  all_deep w = λ ts e r d. is_higher n (size s e) ((w ts).too_high e r d)

  -- after a token, a fact that was certain before it is certain by it
  pub takes_deepens : {b : Bool} {f : Token → Bool} {p : Token → Reading s} {q : Reading s} {x : Token} {ts r : List Token} → f x ≡ true → Deepens g b s n (p x) ts r → Deepens g true s n (peek f (take p) q) (x ∷ ts) r
  takes_deepens {x = x} h (at_once c w) = later x (ends h c (all_deep w))
  takes_deepens h (later z c) = later z (takes h c)

  -- a phrase that is read, before a rest that is too high
  pub then_deepens : {k : Kind} {p : Of (sort k) → Reading s} {ts m r : List Token} {a : Of (sort k)} → Reads (grammar g) (sort k) (grammar g k) ts a m → Deepens g true s n (p a) m r → Deepens g true s n (phrase k p) ts r
  then_deepens d (later z c) = later z (after d c)

  inner : {j : ℕ} {k : Kind} {p : Of (sort k) → Reading s} {ts r : List Token} {e : Of s} → ((us : List Token) → Deep g (sort k) j (grammar g k) us) → ((a : Of (sort k)) → j < size (sort k) a → (us : List Token) → Deep g s n (p a) us) → Reads (grammar g) s (phrase k p) ts e r → n < size s e
  inner {ts = ts} {r = r} {e = e} w keeps (reads {m = m} {a = a} y z) = (keeps a ((w ts).too_high a m y) m).too_high e r z

  -- a phrase that is too high, before what is then too high everywhere
  pub inner_deepens : {b : Bool} {j : ℕ} {k : Kind} {p : Of (sort k) → Reading s} {ts r : List Token} → Deepens g b (sort k) j (grammar g k) ts r → ((a : Of (sort k)) → j < size (sort k) a → (us : List Token) → Deep g s n (p a) us) → Deepens g b s n (phrase k p) ts r
  inner_deepens {k = k} {p = p} (at_once c w) keeps = at_once can_read (λ us. record { too_high = λ e r d. inner w keeps d })
  inner_deepens {j = j} {k = k} (later z c) keeps = later z (part c (λ a h. all_deep (keeps a (higher j (size (sort k) a) h))))

  -- a phrase that is too high, and that the whole tree contains
  pub phrase_deepens : {b : Bool} {j : ℕ} {k : Kind} {p : Of (sort k) → Reading s} {ts r : List Token} → Deepens g b (sort k) j (grammar g k) ts r → ((a : Of (sort k)) → j < size (sort k) a → Meets s (p a) (λ e. n < size s e)) → Deepens g b s n (phrase k p) ts r
  phrase_deepens d keeps = inner_deepens d (λ a h us. meets_deep (keeps a h))

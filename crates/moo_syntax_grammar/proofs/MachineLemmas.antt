-- Properties of every predictive reading: it has one outcome, which depends only on the tokens up to the one where it
-- ends.
use Rattle.std.proofs.Common.{◌≤◌, List, [], ◌∷◌, ◌≡◌, refl, sym, ◌∙◌, subst, Bool, length, arith}
use Rattle.moo_syntax_token.specs.declared.token.Token.{Token}
use Rattle.moo_syntax_grammar.specs.Grammar.{Sort, Of, Kind, sort}
use Rattle.moo_syntax_grammar.specs.Machine.{Reading, Reads, gives, takes, sees, misses, reads, Why, Fails, refuses, forbids, takes_fails, sees_fails, misses_fails, phrase_fails, then_fails}
use Rattle.moo_syntax_grammar.specs.Tokens.{next_passes}
use Rattle.moo_syntax_grammar.specs.Agree.{Agree, at_end, here, next}

-- r is an end of ts
pub data IsEnd : List Token → List Token → Type 0 where
  whole : {ts : List Token} → IsEnd ts ts
  after : {x : Token} {r ts : List Token} → IsEnd r ts → IsEnd r (x ∷ ts)

pub end_of_end : {a b c : List Token} → IsEnd a b → IsEnd b c → IsEnd a c
end_of_end p whole = p
end_of_end p (after q) = after (end_of_end p q)

pub end_length : {a b : List Token} → IsEnd a b → length a ≤ length b
end_length whole = omega arith
end_length (after q) = omega (arith, end_length q)

-- after the token that they share, both lists agree up to a place after it
pub agree_tail : {x y : Token} {at ts us : List Token} → IsEnd at ts → Agree at (x ∷ ts) (y ∷ us) → (x ≡ y) × Agree at ts us
agree_tail s here = absurd (omega (arith, end_length s))
agree_tail s (next a) = (refl, a)

pub agree_next : (f : Token → Bool) {at ts us : List Token} → Agree at ts us → next_passes f ts ≡ next_passes f us
agree_next f at_end = refl
agree_next f here = refl
agree_next f (next a) = refl

pub agree_same : {ts : List Token} (at : List Token) → IsEnd at ts → Agree at ts ts
agree_same [] whole = at_end
agree_same (x ∷ at) whole = here
agree_same at (after s) = next (agree_same at s)

module _ (grammar : (k : Kind) → Reading (sort k)) where
  pub reads_end : {s : Sort} {p : Reading s} {ts r : List Token} {e : Of s} → Reads grammar s p ts e r → IsEnd r ts
  reads_end gives = whole
  reads_end (takes d) = after (reads_end d)
  reads_end (sees h d) = reads_end d
  reads_end (misses h d) = reads_end d
  reads_end (reads c d) = end_of_end (reads_end d) (reads_end c)

  pub fails_end : {w : Why} {s : Sort} {p : Reading s} {ts r : List Token} → Fails grammar w s p ts r → IsEnd r ts
  fails_end refuses = whole
  fails_end forbids = whole
  fails_end (takes_fails d) = after (fails_end d)
  fails_end (sees_fails h d) = fails_end d
  fails_end (misses_fails h d) = fails_end d
  fails_end (phrase_fails d) = fails_end d
  fails_end (then_fails c d) = end_of_end (fails_end d) (reads_end c)

  -- one tree, and one rest
  pub reads_once : {s : Sort} {p : Reading s} {ts r u : List Token} {e g : Of s} → Reads grammar s p ts e r → Reads grammar s p ts g u → (e ≡ g) × (r ≡ u)
  reads_once gives gives = (refl, refl)
  reads_once (takes c) (takes d) = reads_once c d
  reads_once (sees h c) (sees i d) = reads_once c d
  reads_once (sees h c) (misses i d) = cc
  reads_once (misses h c) (sees i d) = cc
  reads_once (misses h c) (misses i d) = reads_once c d
  reads_once {s} {u} {g} (reads {p = p} {a = a} b c) (reads {m = n} y z) =
      let t = reads_once b y in
      reads_once c (subst (λ v. Reads grammar s (p a) v g u) (sym t.1) (subst (λ v. Reads grammar s (p v) n g u) (sym t.0) z))

  -- a reading gives its tree on any tokens that agree up to the one after the phrase
  pub reads_again : {s : Sort} {p : Reading s} {at ts us r : List Token} {e : Of s} → Reads grammar s p ts e r → IsEnd at r → Agree at ts us → (u : List Token) × Reads grammar s p us e u × Agree at r u
  reads_again gives n a = (_, gives, a)
  reads_again (takes d) n (next a) = let t = reads_again d n a in (t.0, takes t.1, t.2)
  reads_again (takes d) n here = absurd (omega (arith, end_length (end_of_end n (reads_end d))))
  reads_again (sees h d) n a = let t = reads_again d n a in (t.0, sees (sym (agree_next _ a) ∙ h) t.1, t.2)
  reads_again (misses h d) n a = let t = reads_again d n a in (t.0, misses (sym (agree_next _ a) ∙ h) t.1, t.2)
  reads_again (reads c d) n a =
      let t = reads_again c (end_of_end n (reads_end d)) a in
      let v = reads_again d n t.2 in
      (v.0, reads t.1 v.1, v.2)

  -- a reading that gives up does so on all tokens that agree up to the place
  pub fails_again : {w : Why} {s : Sort} {p : Reading s} {at ts us r : List Token} {e : Of s} → Fails grammar w s p ts at → Agree at ts us → Reads grammar s p us e r → ⊥
  fails_again refuses a d = elim d [ ]
  fails_again forbids a d = elim d [ ]
  fails_again (takes_fails c) (next a) (takes d) = fails_again c a d
  fails_again (takes_fails c) here (takes d) = absurd (omega (arith, end_length (fails_end c)))
  fails_again (sees_fails h c) a (sees i d) = fails_again c a d
  fails_again (sees_fails {f = f} h c) a (misses i d) = let e = agree_next f a in cc
  fails_again (misses_fails {f = f} h c) a (sees i d) = let e = agree_next f a in cc
  fails_again (misses_fails h c) a (misses i d) = fails_again c a d
  fails_again (phrase_fails c) a (reads x y) = fails_again c a x
  fails_again {s} {r} {e} (then_fails {p = p} {a = x} b c) a (reads {m = n} y z) =
      let t = reads_again b (fails_end c) a in
      let o = reads_once t.1 y in
      fails_again c t.2 (subst (λ v. Reads grammar s (p x) v e r) (sym o.1) (subst (λ v. Reads grammar s (p v) n e r) (sym o.0) z))

  -- a reading gives its tree before any rest that agrees with the one that was left
  pub reads_before : {s : Sort} {p : Reading s} {at ts r u : List Token} {e : Of s} → Reads grammar s p ts e r → Agree at r u → (us : List Token) × Reads grammar s p us e u × Agree at ts us
  reads_before gives a = (_, gives, a)
  reads_before (takes {x = x} d) a = let t = reads_before d a in (x ∷ t.0, takes t.1, next t.2)
  reads_before (sees h d) a = let t = reads_before d a in (t.0, sees (sym (agree_next _ t.2) ∙ h) t.1, t.2)
  reads_before (misses h d) a = let t = reads_before d a in (t.0, misses (sym (agree_next _ t.2) ∙ h) t.1, t.2)
  reads_before (reads c d) a =
      let t = reads_before d a in
      let v = reads_before c t.2 in
      (v.0, reads v.1 t.1, v.2)

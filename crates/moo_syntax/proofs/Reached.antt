-- If a reading gives up, a program by the loose grammar begins with the tokens before the place.
use Rattle.std.proofs.Common.{ℕ, zero, suc, ◌+◌, ◌≤◌, ◌<◌, List, [], ◌∷◌, ◌≡◌, ◌⊎◌, inl, inr, refl, sym, ◌∙◌, ap, subst, Bool, true, false, length, take as first, drop, length-drop, arith}
use Rattle.moo_syntax_token.specs.declared.token.Token.{Token}
use Rattle.moo_syntax_ast.specs.Tree.{Block, no_statement}
use Rattle.moo_syntax_grammar.specs.Tokens.{next_passes}
use Rattle.moo_syntax_grammar.specs.Rules.{loose}
use Rattle.moo_syntax_grammar.specs.Grammar
use Rattle.moo_syntax_grammar.specs.Grammar.{Sort, Of, Kind, Derives, sort, statements, block, no_statements}
use Rattle.moo_syntax_grammar.specs.Machine.{Reading, Reads, Why, Fails, refuses, forbids, takes_fails, sees_fails, misses_fails, phrase_fails, then_fails}
use Rattle.moo_syntax_grammar.specs.Predictive.{grammar}
use Rattle.moo_syntax_grammar.proofs.Leads.{Fact, Leads}
use Rattle.moo_syntax_grammar.proofs.Derived.{all_lead, led, derived}
use Rattle.moo_syntax_grammar.proofs.Endings.{after, Ends, Ending, ending}
use Rattle.moo_syntax.specs.Programs.{SameBefore, BeginsSome}
use Rattle.moo_syntax.proofs.Continued.{closed}
use Rattle.moo_syntax_grammar.proofs.Ends.{all_end}
use Rattle.moo_syntax.proofs.Openings.{CanGoOn, by_tokens, by_assign, Opens, all_open}
use Rattle.moo_syntax.proofs.Swapped.{Swaps, at_rest, token, KeepsAssign, Needs, Replaced, replaced}
use Rattle.moo_syntax.proofs.Rests.{before_after}

-- The second list begins with the tokens of the first before at, of which there is one.
data Begins (at : List Token) : List Token → List Token → Type 0 where
  last : {x : Token} {us : List Token} → Begins at (x ∷ at) (x ∷ us)
  more : {x : Token} {ts us : List Token} → Begins at ts us → Begins at (x ∷ ts) (x ∷ us)

-- tokens before each rest that begin so and have the fact
record Reached (s : Sort) (close : List Token → List Token) (Q : Fact s) (at ts : List Token) : Type 0 where
  tokens : List Token → List Token
  given : Of s
  begins : (r : List Token) → Begins at ts (tokens r)
  holds : (r : List Token) → Q (tokens r) given (close r)

-- the reading is at the place already, or some tokens lead beyond it
abbrev Outcome : (s : Sort) → (List Token → List Token) → Fact s → List Token → List Token → Type 0
Outcome s close Q at ts = (at ≡ ts) ⊎ Reached s close Q at ts

same_next : {at ts us : List Token} (f : Token → Bool) → Begins at ts us → next_passes f us ≡ next_passes f ts
same_next f last = refl
same_next f (more b) = refl

keeps : {at ts us : List Token} → Begins at ts us → KeepsAssign ts us
keeps last = λ e. e
keeps (more b) = λ e. e

needs : (k : Kind) (m r : List Token) → KeepsAssign m r → Needs k m r
needs (Grammar.expression i) m r h = h
needs (Grammar.conditional i) m r h = h
needs (Grammar.chain i l) m r h = h
needs (Grammar.more i l a) m r h = h
needs (Grammar.operand i l) m r h = h
needs (Grammar.power i) m r h = h
needs (Grammar.unary i) m r h = h
needs (Grammar.postfix i) m r h = h
needs (Grammar.suffixes i a) m r h = h
needs (Grammar.primary i) m r h = h
needs (Grammar.arguments i o) m r h = h
needs (Grammar.members i o) m r h = h
needs (Grammar.codes i) m r h = h
needs (Grammar.statement ls) m r h = tt
needs (Grammar.statements ls) m r h = tt
needs (Grammar.arms ls) m r h = tt
needs (Grammar.handlers ls) m r h = tt
needs Grammar.label m r h = tt
needs Grammar.in_parens m r h = tt

-- after a phrase that has got another rest
begins_after : {at m r ts us : List Token} → Swaps m r ts us → Begins at m r → Begins at ts us
begins_after at_rest b = b
begins_after (token s) b = more (begins_after s b)

begins_length : {at ts us : List Token} → Begins at ts us → length at < length ts
begins_length last = omega arith
begins_length (more b) = omega (arith, begins_length b)

-- up to the rest of such a phrase
begins_so : {m r ts us : List Token} → Swaps m r ts us → (m ≡ ts) ⊎ Begins m ts us
begins_so at_rest = inl refl
begins_so (token {x = x} {ts = ts} {us = us} s) =
    elim (begins_so s) [
      | inl e ↦ inr (subst (λ v. Begins v (x ∷ ts) (x ∷ us)) (sym e) last)
      | inr b ↦ inr (more b)
    ]

-- before every rest, if before one
begins_still : {m r ts us vs : List Token} → Begins m ts vs → Swaps m r ts us → Begins m ts us
begins_still b at_rest = absurd (omega (arith, begins_length b))
begins_still last (token s) = last
begins_still (more b) (token s) = more (begins_still b s)

-- a reading that can go on is brought to an end
finished : (s : Sort) (close : List Token → List Token) (Q : Fact s) {p : Reading s} → CanGoOn close s p → Ends s close p Q → Leads loose s p Q → Ending s close Q
finished s close Q (by_tokens c) m l =
    let t = closed loose s close Q c m (λ ts e r d. led loose s Q d l) in
    ending t.tokens t.given t.holds
finished s close Q (by_assign {e = e} w) m l = ending close e (λ r. l.0 (close r) (w r))

reached : {w : Why} (s : Sort) (close : List Token → List Token) (Q : Fact s) {p : Reading s} {at ts : List Token} → Fails (grammar loose) w s p ts at → Ends s close p Q → Opens s close p → Leads loose s p Q → Outcome s close Q at ts
reached s close Q refuses m o l = inl refl
reached s close Q forbids m o l = inl refl
reached s close Q {at = at} (takes_fails {x = x} {ts = us} d) m o l =
    elim (reached s close (λ ts e r. Q (x ∷ ts) e r) d (m x) (o x).1 (l x)) [
      | inl e ↦
          let t = finished s close (λ ts e r. Q (x ∷ ts) e r) (o x).0 (m x) (l x) in
          inr (record { tokens = λ r. x ∷ t.tokens r; given = t.given; begins = λ r. subst (λ v. Begins at (x ∷ v) (x ∷ t.tokens r)) e last; holds = t.holds })
      | inr u ↦ inr (record { tokens = λ r. x ∷ u.tokens r; given = u.given; begins = λ r. more (u.begins r); holds = u.holds })
    ]
reached s close Q (sees_fails {f = f} h d) m o l =
    elim (reached s close (λ ts e r. next_passes f ts ≡ true → Q ts e r) d m.0 o.0 l.0) [
      | inl e ↦ inl e
      | inr u ↦ inr (record { tokens = u.tokens; given = u.given; begins = u.begins; holds = λ r. u.holds r (same_next f (u.begins r) ∙ h) })
    ]
reached s close Q (misses_fails {f = f} h d) m o l =
    elim (reached s close (λ ts e r. next_passes f ts ≡ false → Q ts e r) d m.1 o.1 l.1) [
      | inl e ↦ inl e
      | inr u ↦ inr (record { tokens = u.tokens; given = u.given; begins = u.begins; holds = λ r. u.holds r (same_next f (u.begins r) ∙ h) })
    ]
reached s close Q (phrase_fails {k = k} d) m o l =
    elim (reached (sort k) (after k) (Derives loose k) d (all_end loose k).ends (all_open k) (all_lead loose k).lead) [
      | inl e ↦ inl e
      | inr u ↦
          let t = m.0 u.given in
          inr (record { tokens = λ r. u.tokens (t.rest r); given = t.given; begins = λ r. u.begins (t.rest r); holds = λ r. t.holds r (u.tokens (t.rest r)) (u.holds (t.rest r)) })
    ]
reached s close Q {at = at} (then_fails {k = k} {ts = ts} {m = rest} {a = a} c d) m o l =
    let t = m.0 a in
    elim (reached s close (λ m e r. (ts : List Token) → Derives loose k ts a m → Q ts e r) d (m.1 a) (o a) (l a)) [
      | inl e ↦
          elim (begins_so (before_after k c (t.rest [])).swaps) [
            | inl f ↦ inl (e ∙ f)
            | inr b ↦
                inr (record {
                  tokens = λ r. (before_after k c (t.rest r)).tokens;
                  given = t.given;
                  begins = λ r. subst (λ v. Begins v ts (before_after k c (t.rest r)).tokens) (sym e) (begins_still b (before_after k c (t.rest r)).swaps);
                  holds = λ r. t.holds r (before_after k c (t.rest r)).tokens (before_after k c (t.rest r)).holds;
                })
          ]
      | inr u ↦
          let v : (r : List Token) → Replaced loose k ts a rest (u.tokens r) = λ r. replaced (derived c) (u.tokens r) (needs k rest (u.tokens r) (keeps (u.begins r))) in
          inr (record { tokens = λ r. (v r).tokens; given = u.given; begins = λ r. begins_after (v r).swaps (u.begins r); holds = λ r. u.holds r (v r).tokens (v r).holds })
    ]

same_before : (n : ℕ) {at ts us : List Token} → Begins at ts us → length at + n ≡ length ts → SameBefore n ts us
same_before zero b h = refl
same_before (suc n) {at = at} (last {x = x} {us = us}) h =
    let none : zero ≡ n = omega (arith, h) in
    subst (λ k. first (suc k) (x ∷ us) ≡ first (suc k) (x ∷ at)) none refl
same_before (suc n) (more {x = x} b) h = ap (λ v. x ∷ v) (same_before n b (omega (arith, h)))

swapped_before : (n : ℕ) {m r ts us : List Token} → Swaps m r ts us → length m + n ≡ length ts → SameBefore n ts us
swapped_before zero s h = refl
swapped_before (suc n) at_rest h = absurd (omega (arith, h))
swapped_before (suc n) (token {x = x} s) h = ap (λ v. x ∷ v) (swapped_before n s (omega (arith, h)))

left_after : (n : ℕ) (ts r : List Token) → n ≤ length ts → drop n ts ≡ r → length r + n ≡ length ts
left_after n ts r h e = omega (arith, h, ap length e, length-drop n ts)

-- some program begins with the tokens before the place where the reading of statements gave up
pub begins_until : {w : Why} (n : ℕ) {ts at : List Token} → n ≤ length ts → drop n ts ≡ at → Fails (grammar loose) w block (grammar loose (statements [])) ts at → BeginsSome loose ts n
begins_until n {ts} {at} h is f =
    elim (reached block (λ r. r) (Derives loose (statements [])) f (all_end loose (statements [])).ends (all_open (statements [])) (all_lead loose (statements [])).lead) [
      | inl e ↦
          let none : zero ≡ n = omega (arith, left_after n ts at h is, ap length e) in
          record { tokens = []; tree = no_statement; same = subst (λ k. first k [] ≡ first k ts) none refl; program = no_statements }
      | inr u ↦ record { tokens = u.tokens []; tree = u.given; same = same_before n (u.begins []) (left_after n ts at h is); program = u.holds [] }
    ]

-- and with those before the place where it ended
pub begins_before_rest : (n : ℕ) {ts at : List Token} {b : Block} → n ≤ length ts → drop n ts ≡ at → Reads (grammar loose) block (grammar loose (statements [])) ts b at → BeginsSome loose ts n
begins_before_rest n {ts} {at} {b} h is d =
    let t = replaced (derived d) [] tt in
    record { tokens = t.tokens; tree = b; same = swapped_before n t.swaps (left_after n ts at h is); program = t.holds }

-- Where a tree is certain to be too high, a program by the loose grammar begins with the tokens that were taken.
use Rattle.std.proofs.Common.{List, [], ◌∷◌, ◌≡◌, refl, sym, ◌∙◌, subst, Bool, true, false, Option, Some, None}
use Rattle.moo_syntax_token.specs.declared.token.Token.{Token}
use Rattle.moo_syntax_ast.specs.Tree.{Block}
use Rattle.moo_syntax_grammar.specs.Agree.{Agree, here, next}
use Rattle.moo_syntax_grammar.specs.Rules.{Rules, loose}
use Rattle.moo_syntax_grammar.specs.Grammar.{Sort, Of, Kind, Derives, IsProgramBy, sort, statements, block}
use Rattle.moo_syntax_grammar.specs.Machine.{Reading, Reads, gives, takes, sees, misses, reads}
use Rattle.moo_syntax_grammar.specs.Tokens.{next_passes}
use Rattle.moo_syntax_grammar.specs.Predictive.{grammar}
use Rattle.moo_syntax_grammar.proofs.MachineLemmas.{agree_next, reads_before}
use Rattle.moo_syntax_grammar.proofs.Leads.{Fact}
use Rattle.moo_syntax_grammar.proofs.Derived.{derived}
use Rattle.moo_syntax_grammar.proofs.Admitted.{admitted, loose_admits}
use Rattle.moo_syntax_grammar.proofs.Endings.{after as stands_after, Ends, ends_with_more}
use Rattle.moo_syntax.specs.Outgrown.{CanEnd, can_give, can_read, can_take, can_stop, can_miss, Certain, ends, takes as takes_certain, sees as sees_certain, misses as misses_certain, part, after}
use Rattle.moo_syntax_grammar.proofs.Examples.{example}
use Rattle.moo_syntax_grammar.proofs.Ends.{all_end}

-- the token comes first, if one is named
abbrev pub IsFirst : Option Token → List Token → Type 0
IsFirst None ts = Unit {0}
IsFirst (Some x) ts = (us : List Token) × (ts ≡ x ∷ us)

-- tokens before each rest for which the fact holds
pub record Closed (s : Sort) (close : List Token → List Token) (Q : Fact s) (o : Option Token) : Type 0 where
  pub tokens : List Token → List Token
  pub given : Of s
  pub first : (r : List Token) → IsFirst o (tokens r)
  pub holds : (r : List Token) → Q (tokens r) given (close r)

first_passes : (f : Token → Bool) (x : Token) (b : Bool) (ts : List Token) → f x ≡ b → IsFirst (Some x) ts → next_passes f ts ≡ b
first_passes f x b ts h i = subst (λ v. next_passes f v ≡ b) (sym i.1) h

-- a reading that can be brought to an end
pub closed : (g : Rules) (s : Sort) (close : List Token → List Token) (Q : Fact s) {p : Reading s} {o : Option Token} → CanEnd s p o → Ends s close p Q → ((ts : List Token) (e : Of s) (r : List Token) → Reads (grammar g) s p ts e r → Q ts e r) → Closed s close Q o
closed g s close Q (can_give {e = e}) m n = record { tokens = close; given = e; first = λ r. tt; holds = λ r. n (close r) e (close r) gives }
closed g s close Q (can_read {k = k}) m n =
    let x = example k in
    let t = m.0 x.given in
    record { tokens = λ r. x.tokens (t.rest r); given = t.given; first = λ r. tt; holds = λ r. t.holds r (x.tokens (t.rest r)) (x.holds (t.rest r)) }
closed g s close Q (can_take {f = f} x h c) m n =
    let t = closed g s close (λ ts e r. next_passes f (x ∷ ts) ≡ true → Q (x ∷ ts) e r) c (m.0 x) (λ ts e r d i. n (x ∷ ts) e r (sees i (takes d))) in
    record { tokens = λ r. x ∷ t.tokens r; given = t.given; first = λ r. (t.tokens r, refl); holds = λ r. t.holds r h }
closed g s close Q (can_stop x h) m n =
    let t = m.0 x in
    record { tokens = λ r. x ∷ t.tokens r; given = t.given; first = λ r. (t.tokens r, refl); holds = λ r. t.holds r h }
closed g s close Q (can_miss {f = f} {x = x} h c) m n =
    let t = closed g s close (λ ts e r. next_passes f ts ≡ false → Q ts e r) c m.1 (λ ts e r d i. n ts e r (misses i d)) in
    record { tokens = t.tokens; given = t.given; first = t.first; holds = λ r. t.holds r (first_passes f x false (t.tokens r) h (t.first r)) }

-- an ending of the reading on tokens that agree with these up to a place
record Continued (s : Sort) (close : List Token → List Token) (Q : Fact s) (at ts : List Token) : Type 0 where
  tokens : List Token → List Token
  given : Of s
  agrees : (r : List Token) → Agree at ts (tokens r)
  holds : (r : List Token) → Q (tokens r) given (close r)

loosely : (g : Rules) {k : Kind} {ts r : List Token} {e : Of (sort k)} → Reads (grammar g) (sort k) (grammar g k) ts e r → Derives loose k ts e r
loosely g d = admitted (loose_admits g) (derived d)

continued : (g : Rules) (s : Sort) (close : List Token → List Token) (Q : Fact s) {test : Of s → Bool} {p : Reading s} {at ts : List Token} → Certain g s test p ts at → Ends s close p Q → ((ts : List Token) (e : Of s) (r : List Token) → Reads (grammar g) s p ts e r → Q ts e r) → Continued s close Q at ts
continued g s close Q (ends {f = f} {x = x} h c all) m n =
    let t = closed g s close (λ ts e r. next_passes f (x ∷ ts) ≡ true → Q (x ∷ ts) e r) c (m.0 x) (λ ts e r d i. n (x ∷ ts) e r (sees i (takes d))) in
    record { tokens = λ r. x ∷ t.tokens r; given = t.given; agrees = λ r. here; holds = λ r. t.holds r h }
continued g s close Q (takes_certain {f = f} {x = x} h c) m n =
    let t = continued g s close (λ ts e r. next_passes f (x ∷ ts) ≡ true → Q (x ∷ ts) e r) c (m.0 x) (λ ts e r d i. n (x ∷ ts) e r (sees i (takes d))) in
    record { tokens = λ r. x ∷ t.tokens r; given = t.given; agrees = λ r. next (t.agrees r); holds = λ r. t.holds r h }
continued g s close Q (sees_certain {f = f} h c) m n =
    let t = continued g s close (λ ts e r. next_passes f ts ≡ true → Q ts e r) c m.0 (λ ts e r d i. n ts e r (sees i d)) in
    record { tokens = t.tokens; given = t.given; agrees = t.agrees; holds = λ r. t.holds r (sym (agree_next f (t.agrees r)) ∙ h) }
continued g s close Q (misses_certain {f = f} h c) m n =
    let t = continued g s close (λ ts e r. next_passes f ts ≡ false → Q ts e r) c m.1 (λ ts e r d i. n ts e r (misses i d)) in
    record { tokens = t.tokens; given = t.given; agrees = t.agrees; holds = λ r. t.holds r (sym (agree_next f (t.agrees r)) ∙ h) }
continued g s close Q (part {k = k} c all) m n =
    let t = continued g (sort k) (stands_after k) (Derives loose k) c (all_end g k).ends (λ ts e r d. loosely g d) in
    let u = m.0 t.given in
    record { tokens = λ r. t.tokens (u.rest r); given = u.given; agrees = λ r. t.agrees (u.rest r); holds = λ r. u.holds r (t.tokens (u.rest r)) (t.holds (u.rest r)) }
continued g s close Q (after {k = k} {p = p} {a = a} b c) m n =
    let t = continued g s close (λ m e r. (ts : List Token) → Reads (grammar g) (sort k) (grammar g k) ts a m → Q ts e r) c
    (ends_with_more s close (p a) _ _ (λ ts e r w us d. w us (loosely g d)) (m.1 a))
    (λ ts e r d us y. n us e r (reads y d)) in
    record {
      tokens = λ r. (reads_before (grammar g) b (t.agrees r)).0;
      given = t.given;
      agrees = λ r. (reads_before (grammar g) b (t.agrees r)).2;
      holds = λ r. t.holds r (reads_before (grammar g) b (t.agrees r)).0 (reads_before (grammar g) b (t.agrees r)).1;
    }

-- a loose program that begins with the tokens that were taken
pub program_continued : {g : Rules} {test : Block → Bool} {at ts : List Token} → Certain g block test (grammar g (statements [])) ts at → (us : List Token) × (b : Block) × Agree at ts us × IsProgramBy loose us b
program_continued {g} c =
    let t = continued g block (λ r. r) (Derives loose (statements [])) c (all_end g (statements [])).ends (λ ts e r d. loosely g d) in
    (t.tokens [], t.given, t.agrees [], t.holds [])

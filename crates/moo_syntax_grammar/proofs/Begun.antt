-- Each reading of the grammar that a rule stops can be brought to an end where that rule isn't asked for.
use Rattle.std.proofs.Common.{List, [], ◌∷◌, ◌≡◌, sym, ◌∙◌, true, false}
use Rattle.moo_syntax_token.specs.declared.token.Token.{Token}
use Rattle.moo_syntax_ast.specs.Tree.{Block}
use Rattle.moo_syntax_grammar.specs.Agree.{Agree, here, next}
use Rattle.moo_syntax_grammar.specs.Rules.{Rules, loose}
use Rattle.moo_syntax_grammar.specs.Grammar.{Sort, Of, Derives, IsProgramBy, sort, statements, block}
use Rattle.moo_syntax_grammar.specs.Machine.{Reading, Fails, by_rule, forbids, takes_fails, sees_fails, misses_fails, phrase_fails, then_fails}
use Rattle.moo_syntax_grammar.specs.Tokens.{next_passes}
use Rattle.moo_syntax_grammar.specs.Predictive.{grammar}
use Rattle.moo_syntax_grammar.proofs.Leads.{Fact}
use Rattle.moo_syntax_grammar.proofs.MachineLemmas.{agree_next, reads_before}
use Rattle.moo_syntax_grammar.proofs.Derived.{derived}
use Rattle.moo_syntax_grammar.proofs.Admitted.{admitted, loose_admits}
use Rattle.moo_syntax_grammar.proofs.Endings.{after, Ends}
use Rattle.moo_syntax_grammar.proofs.Ends.{all_end}

-- tokens that agree up to where the reading is stopped, and for which the fact holds
record Begun (s : Sort) (close : List Token → List Token) (Q : Fact s) (at ts : List Token) : Type 0 where
  tokens : List Token → List Token
  given : Of s
  agrees : (r : List Token) → Agree at ts (tokens r)
  holds : (r : List Token) → Q (tokens r) given (close r)

begun : (g : Rules) (s : Sort) (close : List Token → List Token) (Q : Fact s) {p : Reading s} {x : Token} {at ts : List Token} → Fails (grammar g) by_rule s p ts (x ∷ at) → Ends s close p Q → Begun s close Q (x ∷ at) ts
begun g s close Q {x = x} forbids m =
    let t = m x in
    record { tokens = λ r. x ∷ t.tokens r; given = t.given; agrees = λ r. here; holds = t.holds }
begun g s close Q (takes_fails {x = y} d) m =
    let t = begun g s close (λ ts e r. Q (y ∷ ts) e r) d (m y) in
    record { tokens = λ r. y ∷ t.tokens r; given = t.given; agrees = λ r. next (t.agrees r); holds = t.holds }
begun g s close Q (sees_fails {f = f} h d) m =
    let t = begun g s close (λ ts e r. next_passes f ts ≡ true → Q ts e r) d m.0 in
    record { tokens = t.tokens; given = t.given; agrees = t.agrees; holds = λ r. t.holds r (sym (agree_next f (t.agrees r)) ∙ h) }
begun g s close Q (misses_fails {f = f} h d) m =
    let t = begun g s close (λ ts e r. next_passes f ts ≡ false → Q ts e r) d m.1 in
    record { tokens = t.tokens; given = t.given; agrees = t.agrees; holds = λ r. t.holds r (sym (agree_next f (t.agrees r)) ∙ h) }
begun g s close Q (phrase_fails {k = k} d) m =
    let t = begun g (sort k) (after k) (Derives loose k) d (all_end g k).ends in
    let u = m.0 t.given in
    record { tokens = λ r. t.tokens (u.rest r); given = u.given; agrees = λ r. t.agrees (u.rest r); holds = λ r. u.holds r (t.tokens (u.rest r)) (t.holds (u.rest r)) }
begun g s close Q (then_fails {k = k} {a = a} c d) m =
    let t = begun g s close (λ m e r. (ts : List Token) → Derives loose k ts a m → Q ts e r) d (m.1 a) in
    record {
      tokens = λ r. (reads_before (grammar g) c (t.agrees r)).0;
      given = t.given;
      agrees = λ r. (reads_before (grammar g) c (t.agrees r)).2;
      holds = λ r. t.holds r (reads_before (grammar g) c (t.agrees r)).0 (admitted (loose_admits g) (derived (reads_before (grammar g) c (t.agrees r)).1));
    }

-- a loose program whose tokens agree with these up to where a rule stops them
pub program_begun : (g : Rules) {x : Token} {at ts : List Token} → Fails (grammar g) by_rule block (grammar g (statements [])) ts (x ∷ at) → (us : List Token) × (b : Block) × Agree (x ∷ at) ts us × IsProgramBy loose us b
program_begun g d =
    let t = begun g block (λ r. r) (Derives loose (statements [])) d (all_end g (statements [])).ends in
    (t.tokens [], t.given, t.agrees [], t.holds [])

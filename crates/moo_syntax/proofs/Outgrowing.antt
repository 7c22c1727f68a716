-- A fact that is certain by the tokens that were taken holds for whatever tokens follow them.
use Rattle.std.proofs.Common.{ℕ, ◌<◌, List, ◌∷◌, ◌≡◌, refl, sym, subst, Bool, true, nat_lt, arith}
use Rattle.moo_syntax_token.specs.declared.token.Token.{Token}
use Rattle.moo_syntax_grammar.specs.Rules.{Rules}
use Rattle.moo_syntax_grammar.specs.Grammar.{Sort, Of}
use Rattle.moo_syntax_grammar.specs.Machine.{Reading, take, peek, Reads, takes, sees, misses, reads}
use Rattle.moo_syntax_grammar.specs.Predictive.{grammar}
use Rattle.moo_syntax_grammar.specs.Agree.{Agree, here, next}
use Rattle.moo_syntax_grammar.specs.Size.{size}
use Rattle.moo_syntax_grammar.proofs.MachineLemmas.{IsEnd, whole, after as further, end_of_end, end_length, agree_next, reads_end, reads_once, reads_again}
use Rattle.moo_syntax.specs.Outgrown.{AllPass, Certain, ends, takes as takes_certain, sees as sees_certain, misses as misses_certain, part, after, Outgrows}

pub certain_end : {g : Rules} {s : Sort} {test : Of s → Bool} {p : Reading s} {ts at : List Token} → Certain g s test p ts at → IsEnd at ts
certain_end (ends h n a) = whole
certain_end (takes_certain h c) = further (certain_end c)
certain_end (sees_certain h c) = certain_end c
certain_end (misses_certain h c) = certain_end c
certain_end (part c a) = certain_end c
certain_end {g} (after d c) = end_of_end (certain_end c) (reads_end (grammar g) d)

-- the first token is shared
agree_first : {x : Token} {at ts us : List Token} → Agree at (x ∷ ts) us → (vs : List Token) × (us ≡ x ∷ vs)
agree_first here = (_, refl)
agree_first (next a) = (_, refl)

taken_passes : (g : Rules) {s : Sort} {test : Of s → Bool} {f : Token → Bool} {p : Token → Reading s} {q : Reading s} {x : Token} {us r : List Token} {e : Of s} → f x ≡ true → AllPass g s test (p x) → Reads (grammar g) s (peek f (take p) q) (x ∷ us) e r → test e ≡ true
taken_passes g {us = us} {r = r} {e = e} h all (sees i (takes d)) = all us e r d
taken_passes g h all (misses i d) = absurd cc

pub grows : {g : Rules} {s : Sort} {test : Of s → Bool} {p : Reading s} {ts at us r : List Token} {e : Of s} → Certain g s test p ts at → Agree at ts us → Reads (grammar g) s p us e r → test e ≡ true
grows {g} {s} {p = p} {r = r} {e = e} (ends h n all) a d = let t = agree_first a in taken_passes g h all (subst (λ v. Reads (grammar g) s p v e r) t.1 d)
grows (takes_certain h c) (next a) (sees i (takes d)) = grows c a d
grows (takes_certain h c) (next a) (misses i d) = absurd cc
grows (takes_certain h c) here d = absurd (omega (arith, end_length (certain_end c)))
grows (sees_certain h c) a (sees i d) = grows c a d
grows (sees_certain {f = f} h c) a (misses i d) = let e = agree_next f a in absurd cc
grows (misses_certain {f = f} h c) a (sees i d) = let e = agree_next f a in absurd cc
grows (misses_certain h c) a (misses i d) = grows c a d
grows {r = r} {e = e} (part c all) a (reads {m = m} {a = b} y z) = all b (grows c a y) m e r z
grows {g} {s} {r = r} {e = e} (after {p = p} {a = x} b c) a (reads {m = n} y z) =
    let t = reads_again (grammar g) b (certain_end c) a in
    let o = reads_once (grammar g) t.1 y in
    grows c t.2 (subst (λ v. Reads (grammar g) s (p x) v e r) (sym o.1) (subst (λ v. Reads (grammar g) s (p v) n e r) (sym o.0) z))

pub higher : (n m : ℕ) → nat_lt n m ≡ true → n < m
higher n m h = grind arith

pub is_higher : (n m : ℕ) → n < m → nat_lt n m ≡ true
is_higher n m h = grind arith

-- whatever follows the tokens that were taken, the tree is higher than n
pub each_is_higher : {g : Rules} {s : Sort} {n : ℕ} {p : Reading s} {ts at us r : List Token} {e : Of s} → Outgrows g s n p ts at → Agree at ts us → Reads (grammar g) s p us e r → n < size s e
each_is_higher {s = s} {n = n} {e = e} c a d = higher n (size s e) (grows c a d)

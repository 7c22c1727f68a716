-- The steps that the parser's calls add to a reading whose every tree is too high.
use Rattle.std.proofs.Common.{ℕ, zero, suc, ◌≤◌, ◌<◌, List, [], ◌∷◌, ◌≡◌, refl, sym, subst, Bool, true, false, None, unwrap_or, arith}
use Rattle.moo_syntax_token.specs.declared.token.Token.{Token}
use Rattle.moo_syntax_ast.specs.Limits.{height}
use Rattle.moo_syntax_ast.specs.Tree.{Expr, Items}
use Rattle.moo_syntax_grammar.specs.declared.level.Level.TheVariants.{Logic, Relation, Sum, Product}
use Rattle.moo_syntax_ast.specs.declared.operator.BinaryOperator.TheVariants.{Power}
use Rattle.moo_syntax_grammar.specs.declared.level.Operator.TheVariants as operator
use Rattle.moo_syntax_grammar.specs.Tokens.{operator_at, name_at, next_passes}
use Rattle.moo_syntax_grammar.specs.Rules.{Rules, may_assign, may_jump}
use Rattle.moo_syntax_grammar.specs.Minuses.{minuses}
use Rattle.moo_syntax_grammar.specs.Grammar.{Sort, Of, Kind, expression, conditional, chain, more, operand, power, unary, postfix, suffixes, primary, arguments, members, codes, statement, statements, arms, handlers, label, in_parens, sort, has_optional}
use Rattle.moo_syntax_grammar.specs.Machine.{Reading, give, refuse, forbid, take, peek, phrase, Reads, gives, takes, sees, misses, reads}
use Rattle.moo_syntax_grammar.specs.Predictive.{grammar, mark, allowed, if_optional, after_brace}
use Rattle.moo_syntax_grammar.specs.Size.{size}
use Rattle.moo_syntax_grammar.specs.Depth.{Deep}
use Rattle.moo_syntax_grammar.proofs.MachineLemmas.{reads_once}
use Rattle.moo_syntax_grammar.proofs.Heights.{height_positive, negated_height, joined_height}

-- the trees of a kind contain the tree before the phrase
abbrev pub Post : (k : Kind) → Of (sort k) → Type 0
Post (suffixes i a) e = height a ≤ height e
Post (more i l a) e = height a ≤ height e
Post (expression i) e = Unit {0}
Post (conditional i) e = Unit {0}
Post (chain i l) e = Unit {0}
Post (operand i l) e = Unit {0}
Post (power i) e = Unit {0}
Post (unary i) e = Unit {0}
Post (postfix i) e = Unit {0}
Post (primary i) e = Unit {0}
Post (arguments i o) e = Unit {0}
Post (members i o) e = Unit {0}
Post (codes i) e = Unit {0}
Post (statement ls) e = Unit {0}
Post (statements ls) e = Unit {0}
Post (arms ls) e = Unit {0}
Post (handlers ls) e = Unit {0}
Post label e = Unit {0}
Post in_parens e = Unit {0}

-- whatever the reading gives is in Q
abbrev pub Meets : (s : Sort) → Reading s → (Of s → Type 0) → Type 0
Meets s (give e) Q = Q e
Meets s refuse Q = Unit {0}
Meets s forbid Q = Unit {0}
Meets s (take p) Q = (x : Token) → Meets s (p x) Q
Meets s (peek f p q) Q = Meets s p Q × Meets s q Q
Meets s (phrase k p) Q = (a : Of (sort k)) → Post k a → Meets s (p a) Q

pub allowed_meets : {s : Sort} (b : Bool) (p : Reading s) (Q : Of s → Type 0) → Meets s p Q → Meets s (allowed b p) Q
allowed_meets true p Q m = m
allowed_meets false p Q m = tt

optional_meets : (o : Bool) (p q : Reading Sort.items) (Q : Items → Type 0) → Meets Sort.items p Q → Meets Sort.items q Q → Meets Sort.items (if_optional o p q) Q
optional_meets true p q Q m n = ((λ x. m), n)
optional_meets false p q Q m n = n

brace_meets : (b : Bool) (e : Expr) (Q : Expr → Type 0) → Q e → Meets Sort.expr (after_brace b e) Q
brace_meets true e Q m = (m, tt)
brace_meets false e Q m = m

mark_meets : (i : Bool) → Meets Sort.expr (mark i) (λ e. Unit {0})
mark_meets true = tt
mark_meets false = tt

all_meet : (g : Rules) (k : Kind) → Meets (sort k) (grammar g k) (Post k)
unfolding grammar
all_meet g (expression i) = λ a _. (allowed_meets (may_assign g a) _ _ (λ x b _. tt), tt)
all_meet g (conditional i) = λ a _. ((λ x b _. ((λ y c _. tt), tt)), tt)
all_meet g (chain i l) = λ a _ e _. tt
all_meet g (more i l a) = ((λ x b _ e h. omega (arith, h, joined_height (unwrap_or (operator_at l x) (operator.Binary Power)) a b)), omega arith)
all_meet g (operand i Logic) = λ e _. tt
all_meet g (operand i Relation) = λ e _. tt
all_meet g (operand i Sum) = λ e _. tt
all_meet g (operand i Product) = λ e _. tt
all_meet g (power i) = λ a _. ((λ x b _. tt), tt)
all_meet g (unary i) = ((λ x a _. tt), ((λ x a _. tt), λ a _. tt))
all_meet g (postfix i) = λ a _ e _. tt
all_meet g (suffixes i a) = (
  (λ x. ((λ y e h. omega (arith, h)), ((λ y b _. ((λ z e h. omega (arith, h)), tt)), tt))),
  (
    (λ x. ((λ y. ((λ z xs _. ((λ w e h. omega (arith, h)), tt)), tt)), ((λ y b _. ((λ z. ((λ w xs _. ((λ v e h. omega (arith, h)), tt)), tt)), tt)), tt))),
    ((λ x b _. ((λ y c _. ((λ z e h. omega (arith, h)), tt)), ((λ z e h. omega (arith, h)), tt))), omega arith),
  ),
)
all_meet g (primary i) = (
  (λ x. tt),
  (
    (λ x. (allowed_meets (g.functions (unwrap_or (name_at x) [])) _ _ (λ y xs _. ((λ z. tt), tt)), tt)),
    (
      (λ x a _. ((λ y. tt), tt)),
      (
        (λ x xs _. ((λ y. brace_meets (has_optional xs) _ _ tt), tt)),
        (
          (λ x. ((λ y. ((λ z xs _. ((λ w. tt), tt)), tt)), mark_meets i)),
          ((λ x a _. ((λ y c _. ((λ z b _. ((λ w. tt), tt)), ((λ z. tt), tt))), tt)), tt),
        ),
      ),
    ),
  ),
)
all_meet g (codes i) = ((λ x. tt), λ xs _. tt)
all_meet g (arguments i o) = (tt, λ xs _. tt)
all_meet g (members i o) = (
  (λ x a _. ((λ y xs _. tt), tt)),
  optional_meets o _ _ _ ((λ x. ((λ y a _. ((λ z xs _. tt), tt)), ((λ y xs _. tt), tt))), tt) (λ a _. ((λ y xs _. tt), tt)),
)
all_meet g (statement ls) = (
  (λ x a _ b _ c _. ((λ x. tt), tt)),
  (
    (λ x. ((λ x. ((λ x. ((λ x a _. ((λ x b _. ((λ x c _. ((λ x. tt), tt)), tt)), tt)), λ a _ b _. ((λ x. tt), tt))), tt)), tt)),
    (
      (λ x l _ a _ b _. ((λ x. tt), tt)),
      (
        allowed_meets (may_jump g ls None) _ _ (λ x. ((λ x. ((λ x. tt), tt)), (tt, ((λ x. tt), tt)))),
        (
          allowed_meets (may_jump g ls None) _ _ (λ x. ((λ x. ((λ x. tt), tt)), (tt, ((λ x. tt), tt)))),
          (
            (λ x. ((λ x. tt), λ a _. ((λ x. tt), tt))),
            (
              (λ x b _. ((λ x c _. ((λ x. tt), tt)), λ h _. ((λ x. tt), tt))),
              (λ a _. ((λ x. tt), tt)),
            ),
          ),
        ),
      ),
    ),
  ),
)
all_meet g (statements ls) = (((λ x ss _. tt), λ s _ ss _. tt), tt)
all_meet g (arms ls) = ((λ x a _ b _ c _. tt), ((λ x b _. tt), tt))
all_meet g (handlers ls) = ((λ x l _. ((λ x c _. ((λ x b _. ((λ h _. tt), tt)), tt)), tt)), tt)
all_meet g in_parens = ((λ x a _. ((λ x. tt), tt)), tt)
all_meet g label = ((λ x. tt), tt)

meets : (g : Rules) (s : Sort) (Q : Of s → Type 0) {p : Reading s} {ts r : List Token} {e : Of s} → Reads (grammar g) s p ts e r → Meets s p Q → Q e
meets g s Q gives m = m
meets g s Q (takes {x = x} d) m = meets g s Q d (m x)
meets g s Q (sees h d) m = meets g s Q d m.0
meets g s Q (misses h d) m = meets g s Q d m.1
meets g s Q (reads {k = k} {a = a} c d) m = meets g s Q d (m a (meets g (sort k) (Post k) c (all_meet g k)))

pub meets_deep : {g : Rules} {s : Sort} {n : ℕ} {p : Reading s} {ts : List Token} → Meets s p (λ e. n < size s e) → Deep g s n p ts
meets_deep {g} {s} {n} m = record { too_high = λ e r d. meets g s (λ e. n < size s e) d m }

seen : {y : (k : Kind) → Reading (sort k)} {s : Sort} {f : Token → Bool} {p q : Reading s} {ts r : List Token} {e : Of s} → next_passes f ts ≡ true → Reads y s (peek f p q) ts e r → Reads y s p ts e r
seen h (sees i d) = d
seen h (misses i d) = absurd cc

missed : {y : (k : Kind) → Reading (sort k)} {s : Sort} {f : Token → Bool} {p q : Reading s} {ts r : List Token} {e : Of s} → next_passes f ts ≡ false → Reads y s (peek f p q) ts e r → Reads y s q ts e r
missed h (sees i d) = absurd cc
missed h (misses i d) = d

taken : {y : (k : Kind) → Reading (sort k)} {s : Sort} {p : Token → Reading s} {x : Token} {ts r : List Token} {e : Of s} → Reads y s (take p) (x ∷ ts) e r → Reads y s (p x) ts e r
taken (takes d) = d

pub sees_deep : {g : Rules} {s : Sort} {n : ℕ} {f : Token → Bool} {p q : Reading s} {ts : List Token} → next_passes f ts ≡ true → Deep g s n p ts → Deep g s n (peek f p q) ts
sees_deep h w = record { too_high = λ e r d. w.too_high e r (seen h d) }

pub misses_deep : {g : Rules} {s : Sort} {n : ℕ} {f : Token → Bool} {p q : Reading s} {ts : List Token} → next_passes f ts ≡ false → Deep g s n q ts → Deep g s n (peek f p q) ts
misses_deep h w = record { too_high = λ e r d. w.too_high e r (missed h d) }

pub takes_deep : {g : Rules} {s : Sort} {n : ℕ} {f : Token → Bool} {p : Token → Reading s} {q : Reading s} {x : Token} {ts : List Token} → f x ≡ true → Deep g s n (p x) ts → Deep g s n (peek f (take p) q) (x ∷ ts)
takes_deep h w = record { too_high = λ e r d. w.too_high e r (taken (seen h d)) }

pub deep_from : {g : Rules} {s : Sort} {n : ℕ} {p : Reading s} {ts us : List Token} → ts ≡ us → Deep g s n p us → Deep g s n p ts
deep_from {g} {s} {n} {p} is d = subst (λ v. Deep g s n p v) (sym is) d

after : {f : (k : Kind) → Reading (sort k)} {s : Sort} {k : Kind} {p : Of (sort k) → Reading s} {ts m r : List Token} {a : Of (sort k)} {e : Of s} → Reads f (sort k) (f k) ts a m → Reads f s (phrase k p) ts e r → Reads f s (p a) m e r
after {f} {s} {p = p} {r = r} {a = a} {e = e} c (reads {m = l} y z) =
    let t = reads_once f c y in
    subst (λ v. Reads f s (p a) v e r) (sym t.1) (subst (λ v. Reads f s (p v) l e r) (sym t.0) z)

contains : {g : Rules} {s : Sort} {n j : ℕ} {k : Kind} {p : Of (sort k) → Reading s} {ts r : List Token} {e : Of s} → Deep g (sort k) j (grammar g k) ts → ((a : Of (sort k)) → j < size (sort k) a → Meets s (p a) (λ e. n < size s e)) → Reads (grammar g) s (phrase k p) ts e r → n < size s e
contains {g} {s} {n} w keeps (reads {m = l} {a = a} y z) = meets g s (λ e. n < size s e) z (keeps a (w.too_high a l y))

-- a phrase that is read, before a rest that is too high
pub then_deep : {g : Rules} {s : Sort} {n : ℕ} {k : Kind} {p : Of (sort k) → Reading s} {ts m : List Token} {a : Of (sort k)} → Reads (grammar g) (sort k) (grammar g k) ts a m → Deep g s n (p a) m → Deep g s n (phrase k p) ts
then_deep c w = record { too_high = λ e r d. w.too_high e r (after c d) }

-- a phrase that is too high, and that the whole tree contains
pub phrase_deep : {g : Rules} {s : Sort} {n j : ℕ} {k : Kind} {p : Of (sort k) → Reading s} {ts : List Token} → Deep g (sort k) j (grammar g k) ts → ((a : Of (sort k)) → j < size (sort k) a → Meets s (p a) (λ e. n < size s e)) → Deep g s n (phrase k p) ts
phrase_deep w keeps = record { too_high = λ e r d. contains w keeps d }

-- the tree that is read is too high
pub read_deep : {g : Rules} {s : Sort} {n : ℕ} {p : Reading s} {ts : List Token} (e : Of s) (r : List Token) → Reads (grammar g) s p ts e r → n < size s e → Deep g s n p ts
read_deep {g} {s} {n} e r c h = record { too_high = λ f u d. subst (λ v. n < size s v) (reads_once (grammar g) c d).0 h }

-- if no node fits
pub no_room : {g : Rules} {n : ℕ} {p : Reading Sort.expr} {ts : List Token} → n ≡ 0 → Deep g Sort.expr n p ts
no_room z = record { too_high = λ e r d. omega (arith, z, height_positive e) }

-- minuses before an operand that is too high
pub minuses_deep : {g : Rules} (i : Bool) (n k : ℕ) (ts : List Token) → Deep g Sort.expr n (grammar g (unary i)) ts → Deep g Sort.expr n (grammar g (unary i)) (minuses k ts)
unfolding grammar
minuses_deep i n zero ts w = w
minuses_deep i n (suc k) ts w = misses_deep refl (takes_deep refl (phrase_deep (minuses_deep i n k ts w) (λ a h. omega (arith, h, (negated_height a).0))))

-- The choices of the grammar take no bad token.
use Rattle.std.proofs.Common.{ℕ, zero, suc, ◌≤◌, ◌-◌, List, [], ◌∷◌, ◌≡◌, refl, subst, Bool, true, false, None, not, ◌||◌, length, take as first, unwrap_or, arith}
use Rattle.moo_syntax_token.specs.declared.sign.Sign.TheVariants.{RightParen}
use Rattle.moo_syntax_token.specs.declared.token.Token.{Token}
use Rattle.moo_syntax_token.specs.declared.token.Token.TheVariants as token
use Rattle.moo_syntax_ast.specs.Tree.{Expr, assign, call, breaks, continues}
use Rattle.moo_syntax_grammar.specs.declared.level.Level.TheVariants.{Logic, Relation, Sum, Product}
use Rattle.moo_syntax_grammar.specs.Tokens.{is_bad, name_at, next_passes}
use Rattle.moo_syntax_grammar.specs.Rules.{Rules, may_assign, may_jump}
use Rattle.moo_syntax_grammar.specs.Grammar.{Sort, Of, Kind, expression, conditional, chain, more, operand, power, unary, postfix, suffixes, primary, arguments, members, codes, statement, statements, arms, handlers, label, in_parens, sort, has_optional}
use Rattle.moo_syntax_grammar.specs.Machine.{Reading, give, refuse, forbid, take, peek, phrase, Reads, gives, takes, sees, misses, reads, Why, Fails, refuses, forbids, takes_fails, sees_fails, misses_fails, phrase_fails, then_fails}
use Rattle.moo_syntax_grammar.specs.Predictive.{grammar, expect, allowed, if_optional, after_brace, after_jump, mark}
use Rattle.moo_syntax.specs.Programs.{AreSound}
use Rattle.moo_syntax.specs.Stops.{Passes, none, one}

-- The reading takes no bad token. The flag says that the next one is known to be sound.
abbrev TakesSound : (s : Sort) → Bool → Reading s → Type 0
TakesSound s known (give e) = Unit {0}
TakesSound s known refuse = Unit {0}
TakesSound s known forbid = Unit {0}
TakesSound s known (take p) = (known ≡ true) × ((x : Token) → TakesSound s false (p x))
TakesSound s known (peek f p q) = TakesSound s (known || not (f token.Bad)) p × TakesSound s known q
TakesSound s known (phrase k p) = (a : Of (sort k)) → TakesSound s false (p a)

allowed_takes : {s : Sort} (b known : Bool) (p : Reading s) → TakesSound s known p → TakesSound s known (allowed b p)
allowed_takes true known p m = m
allowed_takes false known p m = tt

optional_takes : (o : Bool) (p q : Reading Sort.items) → TakesSound Sort.items false p → TakesSound Sort.items false q → TakesSound Sort.items false (if_optional o p q)
optional_takes true p q m n = ((refl, λ x. m), n)
optional_takes false p q m n = n

brace_takes : (b : Bool) (e : Expr) → TakesSound Sort.expr false (after_brace b e)
brace_takes true e = (tt, tt)
brace_takes false e = tt

mark_takes : (i : Bool) → TakesSound Sort.expr false (mark i)
mark_takes true = tt
mark_takes false = tt

all_take : (g : Rules) (k : Kind) → TakesSound (sort k) false (grammar g k)
unfolding grammar
all_take g (expression i) = λ a. (allowed_takes (may_assign g a) true (take λ _. phrase (expression i) λ b. give (assign a b)) (refl, λ x b. tt), tt)
all_take g (conditional i) = λ a. ((refl, λ x b. ((refl, λ y c. tt), tt)), tt)
all_take g (chain i l) = λ a e. tt
all_take g (more i l a) = ((refl, λ x b e. tt), tt)
all_take g (operand i Logic) = λ e. tt
all_take g (operand i Relation) = λ e. tt
all_take g (operand i Sum) = λ e. tt
all_take g (operand i Product) = λ e. tt
all_take g (power i) = λ a. ((refl, λ x b. tt), tt)
all_take g (unary i) = ((refl, λ x a. tt), ((refl, λ x a. tt), λ a. tt))
all_take g (postfix i) = λ a e. tt
all_take g (suffixes i a) = (
  (refl, λ x. ((refl, λ y e. tt), ((refl, λ y b. ((refl, λ z e. tt), tt)), tt))),
  (
    (
      refl,
      λ x. ((refl, λ y. ((refl, λ z xs. ((refl, λ w e. tt), tt)), tt)), ((refl, λ y b. ((refl, λ z. ((refl, λ w xs. ((refl, λ v e. tt), tt)), tt)), tt)), tt)),
    ),
    ((refl, λ x b. ((refl, λ y c. ((refl, λ z e. tt), tt)), ((refl, λ z e. tt), tt))), tt),
  ),
)
all_take g (primary i) = (
  (refl, λ x. tt),
  (
    (refl, λ x. (allowed_takes (g.functions (unwrap_or (name_at x) [])) true (take λ _. phrase (arguments i false) λ xs. expect RightParen (give (call (unwrap_or (name_at x) []) xs))) (refl, λ y xs. ((refl, λ z. tt), tt)), tt)),
    (
      (refl, λ x a. ((refl, λ y. tt), tt)),
      (
        (refl, λ x xs. ((refl, λ y. brace_takes (has_optional xs) _), tt)),
        (
          (refl, λ x. ((refl, λ y. ((refl, λ z xs. ((refl, λ w. tt), tt)), tt)), mark_takes i)),
          ((refl, λ x a. ((refl, λ y c. ((refl, λ z b. ((refl, λ w. tt), tt)), ((refl, λ z. tt), tt))), tt)), tt),
        ),
      ),
    ),
  ),
)
all_take g (codes i) = ((refl, λ x. tt), λ xs. tt)
all_take g (arguments i o) = (tt, λ xs. tt)
all_take g (members i o) = (
  (refl, λ x a. ((refl, λ y xs. tt), tt)),
  optional_takes o _ _ ((refl, λ x. ((refl, λ y a. ((refl, λ z xs. tt), tt)), ((refl, λ y xs. tt), tt))), tt) (λ a. ((refl, λ y xs. tt), tt)),
)
all_take g (statement ls) = (
  (refl, λ x a b c. ((refl, λ x. tt), tt)),
  (
    (
      refl,
      λ x. ((refl, λ x. ((refl, λ x. ((refl, λ x a. ((refl, λ x b. ((refl, λ x c. ((refl, λ x. tt), tt)), tt)), tt)), λ a b. ((refl, λ x. tt), tt))), tt)), tt),
    ),
    (
      (refl, λ x l a b. ((refl, λ x. tt), tt)),
      (
        allowed_takes (may_jump g ls None) true (take λ _. after_jump g ls breaks) (refl, λ x. ((refl, λ x. ((refl, λ x. tt), tt)), (tt, ((refl, λ x. tt), tt)))),
        (
          allowed_takes (may_jump g ls None) true (take λ _. after_jump g ls continues) (refl, λ x. ((refl, λ x. ((refl, λ x. tt), tt)), (tt, ((refl, λ x. tt), tt)))),
          (
            (refl, λ x. ((refl, λ x. tt), λ a. ((refl, λ x. tt), tt))),
            ((refl, λ x b. ((refl, λ x c. ((refl, λ x. tt), tt)), λ h. ((refl, λ x. tt), tt))), λ a. ((refl, λ x. tt), tt)),
          ),
        ),
      ),
    ),
  ),
)
all_take g (statements ls) = (((refl, λ x ss. tt), λ s ss. tt), tt)
all_take g (arms ls) = ((refl, λ x a b c. tt), ((refl, λ x b. tt), tt))
all_take g (handlers ls) = ((refl, λ x l. ((refl, λ x c. ((refl, λ x b. ((λ h. tt), tt)), tt)), tt)), tt)
all_take g in_parens = ((refl, λ x a. ((refl, λ x. tt), tt)), tt)
all_take g label = ((refl, λ x. tt), tt)

-- where the flag is set, the next token isn't bad
abbrev Known : Bool → List Token → Type 0
Known known ts = known ≡ true → next_passes is_bad ts ≡ false

passes_on : {ts us r : List Token} → Passes ts us → Passes us r → Passes ts r
passes_on none q = q
passes_on (one h p) q = one h (passes_on p q)

sound_unless_bad : (x : Token) → (x ≡ token.Bad → ⊥) → is_bad x ≡ false
sound_unless_bad token.Bad h = absurd (h refl)
sound_unless_bad _ h = refl

contrary : (b : Bool) → b ≡ true → not b ≡ true → ⊥
contrary true h n = cc
contrary false h n = cc

seen_sound : (known : Bool) (f : Token → Bool) (ts : List Token) → Known known ts → next_passes f ts ≡ true → Known (known || not (f token.Bad)) ts
seen_sound true f ts h s = h
seen_sound false f [] h s = absurd cc
seen_sound false f (x ∷ ts) h s = λ n. sound_unless_bad x (λ is. let e = subst (λ v. f v ≡ true) is s in absurd (contrary (f token.Bad) e n))

unknown : (ts : List Token) → Known false ts
unknown ts = λ e. absurd cc

pub reads_pass : (g : Rules) {s : Sort} {p : Reading s} {ts r : List Token} {e : Of s} → Reads (grammar g) s p ts e r → (known : Bool) → TakesSound s known p → Known known ts → Passes ts r
reads_pass g gives known t h = none
reads_pass g (takes {x = x} {ts = us} d) known t h = one (h t.0) (reads_pass g d false (t.1 x) (unknown us))
reads_pass g (sees {f = f} {ts = us} s d) known t h = reads_pass g d (known || not (f token.Bad)) t.0 (seen_sound known f us h s)
reads_pass g (misses s d) known t h = reads_pass g d known t.1 h
reads_pass g (reads {k = k} {ts = us} {m = m} {a = a} c d) known t h = passes_on (reads_pass g c false (all_take g k) (unknown us)) (reads_pass g d false (t a) (unknown m))

pub fails_pass : (g : Rules) {w : Why} {s : Sort} {p : Reading s} {ts r : List Token} → Fails (grammar g) w s p ts r → (known : Bool) → TakesSound s known p → Known known ts → Passes ts r
fails_pass g refuses known t h = none
fails_pass g forbids known t h = none
fails_pass g (takes_fails {x = x} {ts = us} d) known t h = one (h t.0) (fails_pass g d false (t.1 x) (unknown us))
fails_pass g (sees_fails {f = f} {ts = us} s d) known t h = fails_pass g d (known || not (f token.Bad)) t.0 (seen_sound known f us h s)
fails_pass g (misses_fails s d) known t h = fails_pass g d known t.1 h
fails_pass g (phrase_fails {k = k} {ts = us} d) known t h = fails_pass g d false (all_take g k) (unknown us)
fails_pass g (then_fails {k = k} {ts = us} {m = m} {a = a} c d) known t h = passes_on (reads_pass g c false (all_take g k) (unknown us)) (fails_pass g d false (t a) (unknown m))

pub program_passes : (g : Rules) {ts r : List Token} {b : Of Sort.block} → Reads (grammar g) Sort.block (grammar g (statements [])) ts b r → Passes ts r
program_passes g {ts} d = reads_pass g d false (all_take g (statements [])) (unknown ts)

pub failure_passes : (g : Rules) {w : Why} {ts r : List Token} → Fails (grammar g) w Sort.block (grammar g (statements [])) ts r → Passes ts r
failure_passes g {ts} d = fails_pass g d false (all_take g (statements [])) (unknown ts)

passes_shorten : {ts r : List Token} → Passes ts r → length r ≤ length ts
passes_shorten none = omega arith
passes_shorten (one h p) = omega (arith, passes_shorten p)

first_sound : (ts : List Token) → next_passes is_bad ts ≡ false → AreSound (first 1 ts)
first_sound [] h = tt
first_sound (x ∷ ts) h = (h, tt)

-- the tokens up to and with a sound one, with sound ones before it
pub sound_up_to : (n : ℕ) {ts r : List Token} → Passes ts r → length r ≡ length ts - n → n ≤ length ts → next_passes is_bad r ≡ false → AreSound (first (suc n) ts)
sound_up_to zero {ts} none e l h = first_sound ts h
sound_up_to (suc n) none e l h = absurd (omega (arith, e, l))
sound_up_to zero (one s p) e l h = absurd (omega (arith, e, passes_shorten p))
sound_up_to (suc n) (one s p) e l h = (s, sound_up_to n p (omega (arith, e)) (omega (arith, l)) h)

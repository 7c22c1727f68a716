-- A phrase that was read is one, too, before the tokens that `after` names for its kind.
use Rattle.std.proofs.Common.{List, [], ◌∷◌, ◌≡◌, refl, subst, Bool, true, false, ◌||◌}
use Rattle.moo_syntax_token.specs.declared.sign.Sign.TheVariants as sign
use Rattle.moo_syntax_token.specs.declared.keyword.Keyword.TheVariants as keyword
use Rattle.moo_syntax_token.specs.declared.token.Token.{Token}
use Rattle.moo_syntax_token.specs.declared.token.Token.TheVariants.{Keyword, Sign}
use Rattle.moo_syntax_ast.specs.Tree.{any_error}
use Rattle.moo_syntax_grammar.specs.Tokens.{is_sign, next_passes}
use Rattle.moo_syntax_grammar.specs.Rules.{loose}
use Rattle.moo_syntax_grammar.specs.Grammar
use Rattle.moo_syntax_grammar.specs.Grammar.{Sort, Of, Kind, Derives, sort}
use Rattle.moo_syntax_grammar.specs.Machine.{Reading, give, refuse, forbid, take, peek, phrase, Reads, gives, takes, sees, misses, reads}
use Rattle.moo_syntax_grammar.specs.Predictive.{grammar}
use Rattle.moo_syntax_grammar.proofs.Leads.{sign_is}
use Rattle.moo_syntax_grammar.proofs.Derived.{derived}
use Rattle.moo_syntax_grammar.proofs.Endings.{after}
use Rattle.moo_syntax.proofs.Swapped.{KeepsAssign, Replaced, at_rest, stays, joins, replaced}

-- no `=` comes next
abbrev NoAssign : List Token → Type 0
NoAssign ts = next_passes (is_sign sign.Assign) ts ≡ false

no_assign_at : (x : Token) (b : Bool) → is_sign sign.Assign x ≡ b → (x ≡ Sign sign.Assign → ⊥) → is_sign sign.Assign x ≡ false
no_assign_at x true e h = absurd (h (sign_is sign.Assign x e))
no_assign_at x false e h = e

no_assign : (x : Token) → (x ≡ Sign sign.Assign → ⊥) → is_sign sign.Assign x ≡ false
no_assign x h = no_assign_at x (is_sign sign.Assign x) refl h

-- whether a phrase of the kind is never followed by an `=`
abbrev is_bare : Kind → Bool
is_bare (Grammar.expression i) = true
is_bare (Grammar.members i o) = true
is_bare _ = false

-- No `=` comes after what the reading gives. The flag says that none comes next.
abbrev Bare : (s : Sort) → Bool → Reading s → Type 0
Bare s known (give e) = known ≡ true
Bare s known refuse = Unit {0}
Bare s known forbid = Unit {0}
Bare s known (take p) = (x : Token) → Bare s false (p x)
Bare s known (peek f p q) = Bare s known p × Bare s (known || f (Sign sign.Assign)) q
Bare s known (phrase k p) = (a : Of (sort k)) → Bare s (is_bare k) (p a)

all_bare : (k : Kind) → is_bare k ≡ true → Bare (sort k) false (grammar loose k)
unfolding grammar
all_bare (Grammar.expression i) h = λ a. ((λ x b. refl), refl)
all_bare (Grammar.members i true) h = (
  (λ x a. ((λ y xs. refl), refl)),
  ((λ x. ((λ y. ((λ z a. ((λ w xs. refl), refl)), ((λ z xs. refl), refl))), tt)), λ a. ((λ y xs. refl), refl)),
)
all_bare (Grammar.members i false) h = ((λ x a. ((λ y xs. refl), refl)), λ a. ((λ y xs. refl), refl))
all_bare _ h = absurd cc

missed : (known : Bool) (f : Token → Bool) (ts : List Token) → (known ≡ true → NoAssign ts) → next_passes f ts ≡ false → (known || f (Sign sign.Assign)) ≡ true → NoAssign ts
missed true f ts h n e = h refl
missed false f [] h n e = refl
missed false f (x ∷ ts) h n e = no_assign x (λ is. let t = subst (λ v. f v ≡ false) is n in absurd cc)

reads_bare : {s : Sort} {p : Reading s} {ts r : List Token} {e : Of s} → Reads (grammar loose) s p ts e r → (known : Bool) → Bare s known p → (known ≡ true → NoAssign ts) → NoAssign r
reads_bare gives known b h = h b
reads_bare (takes {x = x} d) known b h = reads_bare d false (b x) (λ e. absurd cc)
reads_bare (sees i d) known b h = reads_bare d known b.0 h
reads_bare (misses {f = f} {ts = ts} i d) known b h = reads_bare d (known || f (Sign sign.Assign)) b.1 (missed known f ts h i)
reads_bare (reads {k = k} {a = a} c d) known b h = reads_bare d (is_bare k) (b a) (λ e. reads_bare c false (all_bare k e) (λ i. absurd cc))

expression_ends : (i : Bool) {ts m : List Token} {e : Of Sort.expr} → Reads (grammar loose) Sort.expr (grammar loose (Grammar.expression i)) ts e m → NoAssign m
expression_ends i d = reads_bare d false (all_bare (Grammar.expression i) refl) (λ e. absurd cc)

members_end : (i o : Bool) {ts m : List Token} {e : Of Sort.items} → Reads (grammar loose) Sort.items (grammar loose (Grammar.members i o)) ts e m → NoAssign m
members_end i o d = reads_bare d false (all_bare (Grammar.members i o) refl) (λ e. absurd cc)

never : (m r : List Token) → NoAssign m → KeepsAssign m r
never m r h = λ e. absurd cc

any_replaced : {i : Bool} {ts m : List Token} (r : List Token) → Derives loose (Grammar.codes i) ts any_error m → Replaced loose (Grammar.codes i) ts any_error m r
any_replaced r Grammar.any_code = stays (Keyword keyword.Any ∷ []) Grammar.any_code

codes_replaced : (i : Bool) {ts m : List Token} {e : Of Sort.errors} (r : List Token) → Reads (grammar loose) Sort.errors (grammar loose (Grammar.codes i)) ts e m → Replaced loose (Grammar.codes i) ts e m r
unfolding grammar
codes_replaced i r (sees h (takes gives)) = any_replaced r (derived {k = Grammar.codes i} (sees h (takes gives)))
codes_replaced i {m = m} r (misses h (reads c gives)) = joins [] at_rest (replaced (derived c) r (never m r (members_end i false c))) (λ us x. Grammar.these_codes x)

arguments_replaced : (i o : Bool) {ts m : List Token} {e : Of Sort.items} (r : List Token) → Reads (grammar loose) Sort.items (grammar loose (Grammar.arguments i o)) ts e m → Replaced loose (Grammar.arguments i o) ts e m r
unfolding grammar
arguments_replaced i o r (sees h gives) = stays [] Grammar.no_arguments
arguments_replaced i o {m = m} r (misses h (reads c gives)) = joins [] at_rest (replaced (derived c) r (never m r (members_end i o c))) (λ us x. Grammar.some_arguments x)

-- before what `after` names for the kind, and any rest
pub before_after : (k : Kind) {ts m : List Token} {e : Of (sort k)} → Reads (grammar loose) (sort k) (grammar loose k) ts e m → (r : List Token) → Replaced loose k ts e m (after k r)
before_after (Grammar.expression i) {m = m} d r = replaced (derived d) r (never m r (expression_ends i d))
before_after (Grammar.conditional i) d r = replaced (derived d) _ (λ e. refl)
before_after (Grammar.chain i l) d r = replaced (derived d) _ (λ e. refl)
before_after (Grammar.more i l a) d r = replaced (derived d) _ (λ e. refl)
before_after (Grammar.operand i l) d r = replaced (derived d) _ (λ e. refl)
before_after (Grammar.power i) d r = replaced (derived d) _ (λ e. refl)
before_after (Grammar.unary i) d r = replaced (derived d) _ (λ e. refl)
before_after (Grammar.postfix i) d r = replaced (derived d) _ (λ e. refl)
before_after (Grammar.suffixes i a) d r = replaced (derived d) _ (λ e. refl)
before_after (Grammar.primary i) d r = replaced (derived d) _ (λ e. refl)
before_after (Grammar.arguments i o) d r = arguments_replaced i o r d
before_after (Grammar.members i o) {m = m} d r = replaced (derived d) r (never m r (members_end i o d))
before_after (Grammar.codes i) d r = codes_replaced i r d
before_after (Grammar.statement ls) d r = replaced (derived d) r tt
before_after (Grammar.statements ls) d r = replaced (derived d) r tt
before_after (Grammar.arms ls) d r = replaced (derived d) r tt
before_after (Grammar.handlers ls) d r = replaced (derived d) r tt
before_after Grammar.label d r = replaced (derived d) r tt
before_after Grammar.in_parens d r = replaced (derived d) r tt

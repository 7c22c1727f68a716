-- Runs of minuses before an operand that only an integer literal fits.
use Rattle.std.proofs.Common.{ℕ, zero, suc, ◌+◌, ◌-◌, ◌≤◌, ◌<◌, max, min, List, [], ◌∷◌, ◌≡◌, ◌⊎◌, inl, inr, ⊎_elim, refl, sym, subst, Bool, true, false, is_some, unwrap_or, arith}
use Rattle.moo_syntax_token.specs.declared.sign.Sign.TheVariants.{LeftParen, RightParen, RightBrace}
use Rattle.moo_syntax_token.specs.declared.token.Token.{Token}
use Rattle.moo_syntax_token.specs.declared.token.Token.TheVariants.{Sign, Name}
use Rattle.moo_syntax_ast.specs.declared.operator.UnaryOperator.TheVariants.{Negate}
use Rattle.moo_syntax_ast.specs.declared.tree.Literal.TheVariants as value
use Rattle.moo_syntax_ast.specs.Tree.{Expr, Items, literal, variable, list, call, property, no_items, element, splice, optional, defaulted}
use Rattle.moo_syntax_ast.specs.Tree as tree
use Rattle.moo_syntax_ast.specs.Limits.{height, items_height}
use Rattle.moo_syntax_grammar.specs.Rules.{Rules}
use Rattle.moo_syntax_grammar.specs.Tokens.{is_sign, name_at}
use Rattle.moo_syntax_grammar.specs.Minuses.{minuses, negations}
use Rattle.moo_syntax_grammar.specs.Grammar.{Sort, Of, unary, postfix, suffixes, primary, arguments, negated, has_optional, text, system_object}
use Rattle.moo_syntax_grammar.specs.Machine.{Reading, give, take, peek, phrase, Reads, gives, takes as takes_reads, sees as sees_reads, misses as misses_reads, reads}
use Rattle.moo_syntax_grammar.specs.Predictive.{grammar, allowed, if_sign, if_name, expect, after_brace, after_dot, after_colon, after_bracket, named, braced, dollar, after_dollar, guarded, mark}
use Rattle.moo_syntax_grammar.proofs.Heights.{height_positive}
use Rattle.moo_syntax_grammar.proofs.Depths.{meets_deep}
use Rattle.moo_syntax.specs.Outgrown.{over, can_give, can_read, can_take, AllPass, Certain, ends, takes, misses, part, after, Deepens, later}
use Rattle.moo_syntax.proofs.Outgrowing.{higher, is_higher}
use Rattle.moo_syntax.proofs.Deepening.{can_rule, certain_more}

-- whether the tree is no integer literal
abbrev no_integer : Expr → Bool
no_integer (literal (value.Integer n)) = false
no_integer _ = true

integer_or_not : (e : Expr) → (no_integer e ≡ true) ⊎ ((no_integer e ≡ false) × (height e ≡ 1))
integer_or_not (literal (value.Integer n)) = inr (refl, refl)
integer_or_not (literal _) = inl refl
integer_or_not _ = inl refl

-- a tree with something below it is none
tall_is_none : (e : Expr) → 1 < height e → no_integer e ≡ true
tall_is_none e h = ⊎_elim (λ is. is) (λ is. absurd (omega (arith, h, is.1))) (integer_or_not e)

negated_none : (e : Expr) → no_integer e ≡ true → negated e ≡ tree.unary Negate e
negated_none (literal (value.Integer n)) h = absurd cc
negated_none (literal _) h = refl
negated_none _ h = refl

negated_integer : (e : Expr) → no_integer e ≡ false → no_integer (negated e) ≡ false
negated_integer (literal (value.Integer n)) h = refl
negated_integer (literal _) h = absurd cc
negated_integer _ h = absurd cc

-- each minus is a node more over such a tree
negations_none : (n : ℕ) (e : Expr) → no_integer e ≡ true → (no_integer (negations n e) ≡ true) × (height (negations n e) ≡ height e + n)
negations_none zero e h = (h, omega arith)
negations_none (suc n) e h =
    let t = negations_none n e h in
    rw (negated_none (negations n e) t.0) (refl, omega (arith, t.1))

-- minuses never make a node of an integer literal
negations_integer : (n : ℕ) (e : Expr) → no_integer e ≡ false → no_integer (negations n e) ≡ false
negations_integer zero e h = h
negations_integer (suc n) e h = negated_integer (negations n e) (negations_integer n e h)

integer_height : (e : Expr) → no_integer e ≡ false → height e ≡ 1
integer_height (literal l) h = refl
integer_height _ h = absurd cc

-- the limit after minuses: one node if they leave none
abbrev room_after : ℕ → ℕ → ℕ
room_after m room = max (room - m) (min room 1)

too_tall : (m room : ℕ) (e : Expr) → room_after m room < height e → room < height (negations m e)
too_tall m room e h = ⊎_elim (λ is. omega (arith, h, (negations_none m e is).1)) (λ is. omega (arith, h, is.1, height_positive (negations m e))) (integer_or_not e)

given_passes : (g : Rules) (s : Sort) (test : Of s → Bool) (e : Of s) → test e ≡ true → AllPass g s test (give e)
given_passes g s test e h ts f r gives = h

-- a reading after minuses
certain_after : (g : Rules) (i : Bool) (m : ℕ) (test : Expr → Bool) {ts at : List Token} → Certain g Sort.expr (λ e. test (negations m e)) (grammar g (unary i)) ts at → Certain g Sort.expr test (grammar g (unary i)) (minuses m ts) at
unfolding grammar
certain_after g i zero test c = c
certain_after g i (suc m) test c = misses refl (takes refl (part (certain_after g i m (λ e. test (negated e)) c) (λ a h. given_passes g Sort.expr test (negated a) h)))

-- minuses before an operand that is too high
pub minuses_deepens : {g : Rules} (i : Bool) (m room : ℕ) {ts r : List Token} → Deepens g true Sort.expr (room_after m room) (grammar g (unary i)) ts r → Deepens g true Sort.expr room (grammar g (unary i)) (minuses m ts) r
minuses_deepens {g} i m room (later z c) = later z (certain_after g i m (over room Sort.expr) (certain_more (λ e h. is_higher room (height (negations m e)) (too_tall m room e (higher (room_after m room) (height e) h))) c))

-- the suffixes of a base keep it, or have it below a node
suffix_kept : (g : Rules) (i : Bool) (a : Expr) {ts r : List Token} {e : Expr} → Reads (grammar g) Sort.expr (grammar g (suffixes i a)) ts e r → ((e ≡ a) × (ts ≡ r)) ⊎ (1 < height e)
unfolding grammar
suffix_kept g i a {r = r} {e = e} (sees_reads h (takes_reads d)) = inr ((meets_deep {g = g} {s = Sort.expr} {n = 1} {p = after_dot i a} ((λ y e h. omega (arith, h, height_positive a)), ((λ y b _. ((λ z e h. omega (arith, h, height_positive a)), tt)), tt))).too_high e r d)
suffix_kept g i a {r = r} {e = e} (misses_reads h (sees_reads k (takes_reads d))) = inr ((meets_deep {g = g} {s = Sort.expr} {n = 1} {p = after_colon i a} ((λ y. ((λ z xs _. ((λ w e h. omega (arith, h, height_positive a)), tt)), tt)), ((λ y b _. ((λ z. ((λ w xs _. ((λ v e h. omega (arith, h, height_positive a)), tt)), tt)), tt)), tt))).too_high e r d)
suffix_kept g i a {r = r} {e = e} (misses_reads h (misses_reads k (sees_reads l (takes_reads d)))) = inr ((meets_deep {g = g} {s = Sort.expr} {n = 1} {p = after_bracket i a} (λ b _. ((λ y c _. ((λ z e h. omega (arith, h, height_positive a)), tt)), ((λ z e h. omega (arith, h, height_positive a)), tt)))).too_high e r d)
suffix_kept g i a (misses_reads h (misses_reads k (misses_reads l gives))) = inl (refl, refl)

suffix_passes : (g : Rules) (i : Bool) (a : Expr) → no_integer a ≡ true → AllPass g Sort.expr no_integer (phrase (suffixes i a) λ e. give e)
suffix_passes g i a h ts e r (reads d gives) = ⊎_elim (λ is. subst (λ v. no_integer v ≡ true) (sym is.0) h) (λ t. tall_is_none e t) (suffix_kept g i a d)

-- by the token at which it ends, the reading is certain to give no integer literal
abbrev IsLone : Rules → Reading Sort.expr → List Token → List Token → Type 0
IsLone g p ts r = (z : Token) × Certain g Sort.expr no_integer p ts (z ∷ r)

abbrev after_name : Bool → List ℕ → Bool → Reading Sort.expr
after_name i s b = peek (is_sign LeftParen) (allowed b (take λ _. phrase (arguments i false) λ xs. expect RightParen (give (call s xs)))) (give (variable s))

name_passes : (g : Rules) (i : Bool) (s : List ℕ) (b : Bool) → AllPass g Sort.expr no_integer (after_name i s b)
name_passes g i s true ts e r (sees_reads h (takes_reads (reads w (sees_reads k (takes_reads gives))))) = refl
name_passes g i s true ts e r (sees_reads h (takes_reads (reads w (misses_reads k d)))) = elim d [ ]
name_passes g i s false ts e r (sees_reads h d) = elim d [ ]
name_passes g i s b ts e r (misses_reads h gives) = refl

-- a name is lone by itself, a call by its last parenthesis
lone_name : (g : Rules) (i : Bool) (s : List ℕ) (b : Bool) {ts r : List Token} {e : Expr} → Reads (grammar g) Sort.expr (after_name i s b) ts e r → (ts ≡ r) ⊎ IsLone g (after_name i s b) ts r
lone_name g i s true (sees_reads h (takes_reads (reads w (sees_reads k (takes_reads {x = z} gives))))) = inr (z, takes h (after w (ends k can_give (given_passes g Sort.expr no_integer _ refl))))
lone_name g i s true (sees_reads h (takes_reads (reads w (misses_reads k d)))) = elim d [ ]
lone_name g i s false (sees_reads h d) = elim d [ ]
lone_name g i s b (misses_reads h gives) = inl refl

optional_height : (xs : Items) → has_optional xs ≡ true → 1 ≤ items_height xs
optional_height no_items h = absurd cc
optional_height (element a xs) h = omega (arith, height_positive a)
optional_height (splice a xs) h = omega (arith, height_positive a)
optional_height (optional s xs) h = omega arith
optional_height (defaulted s a xs) h = omega (arith, height_positive a)

lone_items : (g : Rules) (xs : Items) (b : Bool) {ts r : List Token} {e : Expr} → (b ≡ true → 1 ≤ items_height xs) → height e ≤ 1 → Reads (grammar g) Sort.expr (expect RightBrace (after_brace b (list xs))) ts e r → IsLone g (expect RightBrace (after_brace b (list xs))) ts r
lone_items g xs true o l (sees_reads h (takes_reads (sees_reads k gives))) = absurd (omega (arith, l, o refl))
lone_items g xs true o l (sees_reads h (takes_reads (misses_reads k d))) = elim d [ ]
lone_items g xs false o l (sees_reads h (takes_reads {x = z} gives)) = (z, ends h can_give (given_passes g Sort.expr no_integer _ refl))
lone_items g xs b o l (misses_reads h d) = elim d [ ]

mark_passes : (g : Rules) (i : Bool) → AllPass g Sort.expr no_integer (mark i)
mark_passes g true ts e r gives = refl
mark_passes g false ts e r d = elim d [ ]

lone_mark : (g : Rules) (i : Bool) {ts r : List Token} {e : Expr} → Reads (grammar g) Sort.expr (mark i) ts e r → ts ≡ r
lone_mark g true gives = refl
lone_mark g false d = elim d [ ]

-- after `$` and a name
abbrev pub system_part : Bool → List ℕ → Reading Sort.expr
system_part i s = if_sign LeftParen (phrase (arguments i false) λ xs. expect RightParen (give (tree.verb_call system_object (text s) xs))) (give (property system_object (text s)))

system_height : (g : Rules) (i : Bool) (s : List ℕ) {ts r : List Token} {e : Expr} → Reads (grammar g) Sort.expr (system_part i s) ts e r → 1 < height e
system_height g i s {r = r} {e = e} d = (meets_deep {g = g} {s = Sort.expr} {n = 1} {p = system_part i s} ((λ y xs _. ((λ z. omega arith), tt)), omega arith)).too_high e r d

dollar_passes : (g : Rules) (i : Bool) → AllPass g Sort.expr no_integer (after_dollar i)
dollar_passes g i ts e r (sees_reads h (takes_reads {x = x} d)) = tall_is_none e (system_height g i (unwrap_or (name_at x) []) d)
dollar_passes g i ts e r (misses_reads h d) = mark_passes g i ts e r d

lone_dollar : (g : Rules) (i : Bool) {ts r : List Token} {e : Expr} → height e ≤ 1 → Reads (grammar g) Sort.expr (dollar i) ts e r → IsLone g (dollar i) ts r
lone_dollar g i l (sees_reads h (takes_reads (sees_reads k (takes_reads {x = x} d)))) = absurd (omega (arith, l, system_height g i (unwrap_or (name_at x) []) d))
lone_dollar g i l (sees_reads h (takes_reads {x = z} {ts = ts} (misses_reads k d))) =
    (z, subst (λ v. Certain g Sort.expr no_integer (dollar i) (z ∷ ts) (z ∷ v)) (lone_mark g i d) (ends h (can_take (Name []) refl (can_take (Sign LeftParen) refl can_read)) (dollar_passes g i)))
lone_dollar g i {r = r} {e = e} l (misses_reads h d) =
    absurd (omega (arith, l, (meets_deep {g = g} {s = Sort.expr} {n = 1} {p = guarded i} ((λ x a _. ((λ y c _. ((λ z b _. ((λ w. omega (arith, height_positive a)), tt)), ((λ z. omega (arith, height_positive a)), tt))), tt)), tt)).too_high e r d))

lone_braced : (g : Rules) (i : Bool) {ts r : List Token} {e : Expr} → height e ≤ 1 → Reads (grammar g) Sort.expr (braced i) ts e r → IsLone g (braced i) ts r
lone_braced g i l (sees_reads h (takes_reads (reads {a = xs} w d))) =
    let t = lone_items g xs (has_optional xs) (optional_height xs) l d in
    (t.0, takes h (after w t.1))
lone_braced g i l (misses_reads h d) = let t = lone_dollar g i l d in (t.0, misses h t.1)

lone_first : (g : Rules) (i : Bool) (x : Token) {q : Reading Sort.expr} {ts r : List Token} {e : Expr} → is_some (name_at x) ≡ true → Reads (grammar g) Sort.expr (named g i (unwrap_or (name_at x) [])) ts e r → IsLone g (if_name (named g i) q) (x ∷ ts) r
lone_first g i x {q} {ts} {r} h d =
    let s = unwrap_or (name_at x) [] in
    ⊎_elim
    (λ is. (x, subst (λ v. Certain g Sort.expr no_integer (if_name (named g i) q) (x ∷ ts) (x ∷ v)) is (ends h (can_rule _ (g.functions s) (Sign LeftParen) refl can_read) (name_passes g i s (g.functions s)))))
    (λ t. (t.0, takes h t.1))
    (lone_name g i s (g.functions s) d)

lone_primary : (g : Rules) (i : Bool) {ts r : List Token} {e : Expr} → no_integer e ≡ true → height e ≤ 1 → Reads (grammar g) Sort.expr (grammar g (primary i)) ts e r → IsLone g (grammar g (primary i)) ts r
unfolding grammar
lone_primary g i n l (sees_reads h (takes_reads {x = z} gives)) = (z, ends h can_give (given_passes g Sort.expr no_integer _ n))
lone_primary g i n l (misses_reads h (sees_reads k (takes_reads {x = z} {ts = ts} d))) =
    let t = lone_first g i z k d in
    (t.0, misses h t.1)
lone_primary g i n l (misses_reads h (misses_reads k (sees_reads o (takes_reads (reads w (sees_reads q (takes_reads {x = z} gives))))))) = (z, misses h (misses k (takes o (after w (ends q can_give (given_passes g Sort.expr no_integer _ n))))))
lone_primary g i n l (misses_reads h (misses_reads k (sees_reads o (takes_reads (reads w (misses_reads q d)))))) = elim d [ ]
lone_primary g i n l (misses_reads h (misses_reads k (misses_reads o d))) = let t = lone_braced g i l d in (t.0, misses h (misses k (misses o t.1)))

lone_postfix : (g : Rules) (i : Bool) {ts r : List Token} {e : Expr} → no_integer e ≡ true → height e ≤ 1 → Reads (grammar g) Sort.expr (grammar g (postfix i)) ts e r → IsLone g (grammar g (postfix i)) ts r
unfolding grammar
lone_postfix g i {ts} {r} n l (reads {a = a} c (reads {a = e} d gives)) =
    ⊎_elim
    (λ is.
    let at = subst (λ v. Reads (grammar g) Sort.expr (grammar g (primary i)) ts a v) is.1 c in
    let t = lone_primary g i (subst (λ v. no_integer v ≡ true) is.0 n) (subst (λ v. height v ≤ 1) is.0 l) at in
    (t.0, part t.1 (λ b h. suffix_passes g i b h)))
    (λ h. absurd (omega (arith, h, l)))
    (suffix_kept g i a d)

lone_unary : (g : Rules) (i : Bool) {ts r : List Token} {e : Expr} → no_integer e ≡ true → height e ≤ 1 → Reads (grammar g) Sort.expr (grammar g (unary i)) ts e r → IsLone g (grammar g (unary i)) ts r
unfolding grammar
lone_unary g i n l (sees_reads h (takes_reads (reads {a = a} d gives))) = absurd (omega (arith, l, height_positive a))
lone_unary g i n l (misses_reads h (sees_reads k (takes_reads (reads {a = a} d gives)))) =
    ⊎_elim
    (λ is. absurd (omega (arith, subst (λ v. height v ≤ 1) (negated_none a is) l, height_positive a)))
    (λ is. let no = negated_integer a is.0 in absurd cc)
    (integer_or_not a)
lone_unary g i n l (misses_reads h (misses_reads k (reads d gives))) = let t = lone_postfix g i n l d in (t.0, misses h (misses k (part t.1 (λ b m. given_passes g Sort.expr no_integer b m))))

-- the operand is within the limit, and the minuses before it are not
late_is_none : (m room : ℕ) (e : Expr) → height e ≤ room_after m room → room < height (negations m e) → (no_integer e ≡ true) × (height e ≤ 1) × (room ≤ m)
late_is_none m room e l h =
    ⊎_elim
    (λ is. (is, omega (arith, l, h, (negations_none m e is).1, height_positive e), omega (arith, l, h, (negations_none m e is).1, height_positive e)))
    (λ is. absurd (omega (arith, l, h, is.1, integer_height (negations m e) (negations_integer m e is.0))))
    (integer_or_not e)

-- minuses before an operand that was read
pub minuses_late : {g : Rules} (i : Bool) (m room : ℕ) {ts r : List Token} (e : Expr) → Reads (grammar g) Sort.expr (grammar g (unary i)) ts e r → height e ≤ room_after m room → room < height (negations m e) → Deepens g true Sort.expr room (grammar g (unary i)) (minuses m ts) r
minuses_late {g} i m room e d l h =
    let t = late_is_none m room e l h in
    let c = lone_unary g i t.0 t.1 d in
    later c.0 (certain_after g i m (over room Sort.expr) (certain_more (λ f n. is_higher room (height (negations m f)) (omega (arith, t.2, (negations_none m f n).1, height_positive f))) c.1))

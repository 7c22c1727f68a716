-- The steps that the parser's calls add to a reading.
use Rattle.std.proofs.Common.{ℕ, zero, suc, ◌+◌, ◌≤◌, ◌<◌, List, [], ◌∷◌, ◌++◌, ◌≡◌, refl, sym, ◌∙◌, ap, subst, Bool, true, false, Option, Some, None, Result, Ok, Err, MatchOption, MatchResult, IfOk, IfErr, ⊎_elim, ◌⊎◌, arith}
use Rattle.moo_syntax_token.specs.declared.sign.Sign.TheVariants.{Comma, LeftParen, Question, Assign}
use Rattle.moo_syntax_token.specs.declared.token.Token.{Token}
use Rattle.moo_syntax_token.specs.declared.token.Token.TheVariants.{Sign, Name}
use Rattle.moo_syntax_ast.specs.declared.tree.Item.{Item}
use Rattle.moo_syntax_ast.specs.declared.tree.Literal.{Literal}
use Rattle.moo_syntax_ast.specs.Tree.{Expr, Items}
use Rattle.moo_syntax_ast.specs.Tree as tree
use Rattle.moo_syntax_ast.specs.Limits.{height}
use Rattle.moo_syntax_ast.specs.View.{root, with_item, in_front}
use Rattle.moo_syntax_grammar.specs.declared.names.Names.{Names}
use Rattle.moo_syntax_grammar.specs.Rules.{Rules, Admits, strict}
use Rattle.moo_syntax_grammar.specs.Minuses.{minuses, negations}
use Rattle.moo_syntax_grammar.specs.Depth.{Deep}
use Rattle.moo_syntax_grammar.specs.Tokens.{is_sign, next_passes}
use Rattle.moo_syntax_grammar.specs.Grammar.{Sort, Of, Kind, unary, members, sort}
use Rattle.moo_syntax_grammar.specs.Machine.{Reading, refuse, peek, take, Reads, gives, takes, sees, misses, reads, Why, by_form, Fails, refuses, takes_fails, sees_fails, misses_fails, phrase_fails}
use Rattle.moo_syntax_grammar.specs.Predictive.{grammar, allowed, after_member, if_optional, after_brace}
use Rattle.moo_syntax_grammar.specs.Size.{size}
use Rattle.moo_syntax_grammar.proofs.Complete.{allowed_reads}
use Rattle.moo_syntax_grammar.proofs.Kept.{allowed_fails}
use Rattle.moo_syntax_grammar.proofs.Heights.{item_in_front}
use Rattle.moo_syntax_grammar.proofs.Depths.{Meets}
use Rattle.moo_syntax.specs.declared.fault.Fault.{Fault}
use Rattle.moo_syntax.specs.declared.fault.Fault.TheVariants.{Unexpected, BadTarget, UnknownFunction, BadLoopName, TooDeep, Memory}
use Rattle.moo_syntax.specs.declared.cursor.Cursor.{Cursor}
use Rattle.moo_syntax.specs.declared.node.Node.{Node}
use Rattle.moo_syntax.specs.Cursor.{left, Takes, Stays, StaysUnless}
use Rattle.moo_syntax.specs.Outgrown.{Deepens}
use Rattle.moo_syntax.proofs.Deepening.{deepens_from, takes_deepens, misses_deepens, phrase_deepens}
use Rattle.moo_syntax.specs.Places.{IsCalled}
use Rattle.moo_syntax.specs.Height.{IsMade}
use Rattle.moo_syntax.specs.Outcome.{ReadsBy, IsReadBy, ToldBy, HasFailedBy, member_name, IsUnnamed, IsMember, GoesOn}

module _ {y : (k : Kind) → Reading (sort k)} {s : Sort} where
  -- the front of a reading under another name
  pub reads_from : {p : Reading s} {ts us r : List Token} {e : Of s} → ts ≡ us → Reads y s p us e r → Reads y s p ts e r
  reads_from {p} {r = r} {e = e} is d = subst (λ v. Reads y s p v e r) (sym is) d

  pub fails_from : {w : Why} {p : Reading s} {ts us r : List Token} → ts ≡ us → Fails y w s p us r → Fails y w s p ts r
  fails_from {w} {p} {r = r} is d = subst (λ v. Fails y w s p v r) (sym is) d

module _ {y : (k : Kind) → Reading (sort k)} {s : Sort} {old new : Cursor} where
  pub took : {x : Token} {f : Token → Bool} {p : Token → Reading s} {q : Reading s} {e : Of s} {r : List Token} → Takes x old new → f x ≡ true → Reads y s (p x) (left new) e r → Reads y s (peek f (take p) q) (left old) e r
  took {f} {p} {q} {e} {r} t h d = subst (λ v. Reads y s (peek f (take p) q) v e r) (sym t.token) (sees h (takes d))

  pub took_fails : {w : Why} {x : Token} {f : Token → Bool} {p : Token → Reading s} {q : Reading s} {r : List Token} → Takes x old new → f x ≡ true → Fails y w s (p x) (left new) r → Fails y w s (peek f (take p) q) (left old) r
  took_fails {w} {f} {p} {q} {r} t h d = subst (λ v. Fails y w s (peek f (take p) q) v r) (sym t.token) (sees_fails h (takes_fails d))

  pub stayed : {f : Token → Bool} {p q : Reading s} {e : Of s} {r : List Token} → Stays f old new → Reads y s q (left new) e r → Reads y s (peek f p q) (left old) e r
  stayed {q} {e} {r} t d = misses t.other (subst (λ v. Reads y s q v e r) t.rest d)

  pub stayed_fails : {w : Why} {f : Token → Bool} {p q : Reading s} {r : List Token} → Stays f old new → Fails y w s q (left new) r → Fails y w s (peek f p q) (left old) r
  stayed_fails {w} {q} {r} t d = misses_fails t.other (subst (λ v. Fails y w s q v r) t.rest d)

module _ {g : Rules} {s : Sort} {n : ℕ} {old new : Cursor} where
  pub took_deepens : {b : Bool} {x : Token} {f : Token → Bool} {p : Token → Reading s} {q : Reading s} {r : List Token} → Takes x old new → f x ≡ true → Deepens g b s n (p x) (left new) r → Deepens g true s n (peek f (take p) q) (left old) r
  took_deepens t h w = deepens_from t.token (takes_deepens h w)

  pub stayed_deepens : {f : Token → Bool} {p q : Reading s} {r : List Token} → Stays f old new → Deepens g true s n q (left new) r → Deepens g true s n (peek f p q) (left old) r
  stayed_deepens {q} {r} t w = misses_deepens t.other (subst (λ v. Deepens g true s n q v r) t.rest w)

pub admits_itself : (names : Names) → Admits (strict names) (strict names)
admits_itself names = record { targets = λ e. e; functions = λ s e. e; loops = λ e. e }

-- the grammars under which a fault is reported admit all programs
pub told_admits : (f : Fault) (names : Names) (g : Rules) → ToldBy f names g → Admits g (strict names)
told_admits Unexpected names g b = b
told_admits BadTarget names g b = b.0
told_admits UnknownFunction names g b = b.0
told_admits BadLoopName names g b = b.0
told_admits TooDeep names g b = absurd b
told_admits Memory names g b = absurd b

-- a fact of the fault that `?` passed on
pub passed : {A : Type 0} (P : Fault → Type 0) {result : Result A Fault} {f y : Fault} → result ≡ Err y → y ≡ f → P f → IfErr result P
passed P is same h = subst (λ v. IfErr v P) (sym is) (subst P (sym same) h)

module _ {names : Names} {taken : Bool} {s : Sort} {p : Rules → Reading s} {room before : ℕ} {old new : Cursor} where
  -- no grammar goes on with the next token
  pub refused : {f : Fault} → f ≡ Unexpected → ((g : Rules) → Admits g (strict names) → Fails (grammar g) by_form s (p g) (left old) (left new)) → HasFailedBy names taken s p room before old new f
  refused is d = subst (λ v. HasFailedBy names taken s p room before old new v) (sym is) (record {
    fails = d;
    stands = tt;
    deep = λ h. absurd cc;
    long = λ h. absurd cc;
  })

  -- a fault under another name
  pub same_fault : {f h : Fault} → f ≡ h → HasFailedBy names taken s p room before old new h → HasFailedBy names taken s p room before old new f
  same_fault is w = subst (λ v. HasFailedBy names taken s p room before old new v) (sym is) w

  pub no_memory : {f : Fault} → f ≡ Memory → HasFailedBy names taken s p room before old new f
  no_memory is = subst (λ v. HasFailedBy names taken s p room before old new v) (sym is) (record {
    fails = λ g b. absurd b;
    stands = tt;
    deep = λ h. absurd cc;
    long = λ h. absurd cc;
  })

  pub too_high : {f : Fault} → f ≡ TooDeep → ((g : Rules) → Admits g (strict names) → Deepens g taken s room (p g) (left old) (left new)) → old.at + room < new.at + before → HasFailedBy names taken s p room before old new f
  too_high is d l = subst (λ v. HasFailedBy names taken s p room before old new v) (sym is) (record {
    fails = λ g b. absurd b;
    stands = tt;
    deep = λ h. d;
    long = λ h. l;
  })

-- the result of a last call, as a result of its caller
pub if_ok : {A : Type 0} (P Q : A → Type 0) (result : Result A Fault) → IfOk result P → ((a : A) → P a → Q a) → IfOk result Q
if_ok P Q (Ok a) o f = f a o
if_ok P Q (Err e) o f = tt

pub if_err : {A : Type 0} (P Q : Fault → Type 0) (result : Result A Fault) → IfErr result P → ((f : Fault) → P f → Q f) → IfErr result Q
if_err P Q (Ok a) o f = tt
if_err P Q (Err e) o f = f e o

module _ (names : Names) (p : Rules → Reading Sort.expr) (room before : ℕ) (old new : Cursor) (e : Expr) where
  -- the tree of a reading that came to its end was made
  pub made : (result : Result Node Fault) → IsMade e room result → ReadsBy names Sort.expr p (left old) e (left new) → old.at + height e ≤ new.at + before → IfOk result (λ n. IsReadBy names Sort.expr p room before old new (root n.tree))
  made (Ok n) m d h = subst (λ v. IsReadBy names Sort.expr p room before old new v) (sym m.0) (record { reads = d; fits = omega (arith, m.1, m.2); tokens = h })
  made (Err f) m d h = tt

-- a tree that fits was not made
pub not_made : {names : Names} {taken : Bool} {s : Sort} {p : Rules → Reading s} {room before : ℕ} {old new : Cursor} {f : Fault} (e : Expr) → ((f ≡ Memory) ⊎ ((f ≡ TooDeep) × (room < height e))) → height e ≤ room → HasFailedBy names taken s p room before old new f
not_made e m h = ⊎_elim (λ is. no_memory is) (λ is. absurd (omega (arith, h, is.1))) m

module _ (names : Names) (taken : Bool) (p : Rules → Reading Sort.expr) (room before : ℕ) (old new : Cursor) (e : Expr) where
  -- the last tree of a reading was not made, though it fits
  pub unmade : (result : Result Node Fault) → IsMade e room result → height e ≤ room → IfErr result (λ f. HasFailedBy names taken Sort.expr p room before old new f)
  unmade (Ok n) m h = tt
  unmade (Err f) m h = not_made e m h

  -- a leaf was not made
  pub no_leaf : (result : Result Node Fault) → IsMade e room result → (room < height e → (g : Rules) → Admits g (strict names) → Deepens g taken Sort.expr room (p g) (left old) (left new)) → (room < height e → old.at + room < new.at + before) → IfErr result (λ f. HasFailedBy names taken Sort.expr p room before old new f)
  no_leaf (Ok n) m d l = tt
  no_leaf (Err f) m d l = ⊎_elim (λ is. no_memory is) (λ is. too_high is.0 (d is.1) (l is.1)) m

-- the call found nothing
pub none_of : {A : Type 0} (P : Type 0) (Q : A → Type 0) (o : Option A) → ((x : A) → o ≡ Some x → ⊥) → MatchOption o P Q → P
none_of P Q None n m = m
none_of P Q (Some x) n m = absurd (n x refl)

paren_next : (ts : List Token) → next_passes (is_sign LeftParen) ts ≡ true → (r : List Token) × (ts ≡ Sign LeftParen ∷ r)
paren_next [] h = absurd cc
paren_next (Sign LeftParen ∷ r) h = (r, refl)
paren_next (_ ∷ r) h = absurd cc

-- a name with a parenthesis after it
pub called : {name : List ℕ} {old new : Cursor} → Takes (Name name) old new → next_passes (is_sign LeftParen) (left new) ≡ true → IsCalled new.spots.now new.at name
called {name} {old} {new} t h =
    let next = paren_next (left new) h in
    subst (λ v. IsCalled v new.at name) (sym t.spots) (record {
      before = old.at;
      place = t.at;
      rest = next.0;
      called = t.token ∙ ap (λ ts. Name name ∷ ts) next.1;
    })

pub in_front_push : (front : List Item) (x : Item) (xs : Items) → in_front (front ++ x ∷ []) xs ≡ in_front front (with_item x xs)
in_front_push [] x xs = refl
in_front_push (y ∷ front) x xs = ap (with_item y) (in_front_push front x xs)

-- minuses before an operand
pub minuses_read : (g : Rules) (i : Bool) (n : ℕ) {ts r : List Token} {e : Expr} → Reads (grammar g) Sort.expr (grammar g (unary i)) ts e r → Reads (grammar g) Sort.expr (grammar g (unary i)) (minuses n ts) (negations n e) r
unfolding grammar
minuses_read g i zero d = d
minuses_read g i (suc n) d = misses refl (sees refl (takes (reads (minuses_read g i n d) gives)))

pub minuses_fail : {w : Why} (g : Rules) (i : Bool) (n : ℕ) {ts r : List Token} → Fails (grammar g) w Sort.expr (grammar g (unary i)) ts r → Fails (grammar g) w Sort.expr (grammar g (unary i)) (minuses n ts) r
unfolding grammar
minuses_fail g i zero d = d
minuses_fail g i (suc n) d = misses_fails refl (sees_fails refl (takes_fails (phrase_fails (minuses_fail g i n d))))

module _ (names : Names) (i o : Bool) {room : ℕ} (front : List Item) (ts : List Token) (us old new : Cursor) (w : GoesOn names (members i o) (members i o) (in_front front) ts (left us)) where
  -- the last member
  pub ended : (x : Item) → IsMember names i o room us old x → Stays (is_sign Comma) old new → ReadsBy names Sort.items (λ g. grammar g (members i o)) ts (in_front front (with_item x tree.no_items)) (left new)
  ended x m st = λ g a. w.reads g a _ _ (m.leads.reads g a _ _ (stayed st gives))

  -- a member, and a comma after it
  pub goes_on_member : (x : Item) → IsMember names i o room us old x → Takes (Sign Comma) old new → GoesOn names (members i o) (members i o) (in_front (front ++ x ∷ [])) ts (left new)
  goes_on_member x m tk = record {
    reads = λ g a xs r d. rw in_front_push (w.reads g a _ _ (m.leads.reads g a _ _ (took tk refl (reads d gives))));
    fails = λ g a r d. w.fails g a _ (m.leads.fails g a _ (took_fails tk refl (phrase_fails d)));
    deep = λ g a n r d. w.deep g a n r (m.leads.deep g a n r (took_deepens tk refl (phrase_deepens d (λ xs q. omega (arith, q, item_in_front x xs)))));
  }

module _ {y : (k : Kind) → Reading (sort k)} {old new : Cursor} where
  -- a `?` that is allowed there
  pub asked : (o : Bool) (p q : Reading Sort.items) {e : Items} {r : List Token} → (o ≡ true) × Takes (Sign Question) old new → Reads y Sort.items p (left new) e r → Reads y Sort.items (if_optional o p q) (left old) e r
  asked true p q t d = took t.1 refl d
  asked false p q t d = let e = t.0 in absurd cc

  pub asked_fails : {w : Why} (o : Bool) (p q : Reading Sort.items) {r : List Token} → (o ≡ true) × Takes (Sign Question) old new → Fails y w Sort.items p (left new) r → Fails y w Sort.items (if_optional o p q) (left old) r
  asked_fails true p q t d = took_fails t.1 refl d
  asked_fails false p q t d = let e = t.0 in absurd cc

  -- no `?` that is allowed there
  pub unasked : (o : Bool) (p q : Reading Sort.items) {e : Items} {r : List Token} → StaysUnless o (is_sign Question) old new → Reads y Sort.items q (left new) e r → Reads y Sort.items (if_optional o p q) (left old) e r
  unasked true p q {e} {r} t d = misses (t.other refl) (subst (λ v. Reads y Sort.items q v e r) t.rest d)
  unasked false p q {e} {r} t d = subst (λ v. Reads y Sort.items q v e r) t.rest d

  pub unasked_fails : {w : Why} (o : Bool) (p q : Reading Sort.items) {r : List Token} → StaysUnless o (is_sign Question) old new → Fails y w Sort.items q (left new) r → Fails y w Sort.items (if_optional o p q) (left old) r
  unasked_fails {w} true p q {r} t d = misses_fails (t.other refl) (subst (λ v. Fails y w Sort.items q v r) t.rest d)
  unasked_fails {w} false p q {r} t d = subst (λ v. Fails y w Sort.items q v r) t.rest d

module _ {g : Rules} {n : ℕ} {old new : Cursor} {r : List Token} where
  pub asked_deepens : {b : Bool} (o : Bool) (p q : Reading Sort.items) → (o ≡ true) × Takes (Sign Question) old new → Deepens g b Sort.items n p (left new) r → Deepens g true Sort.items n (if_optional o p q) (left old) r
  asked_deepens true p q t d = took_deepens t.1 refl d
  asked_deepens false p q t d = let e = t.0 in absurd cc

  pub unasked_deepens : (o : Bool) (p q : Reading Sort.items) → StaysUnless o (is_sign Question) old new → Deepens g true Sort.items n q (left new) r → Deepens g true Sort.items n (if_optional o p q) (left old) r
  unasked_deepens true p q t d = misses_deepens (t.other refl) (subst (λ v. Deepens g true Sort.items n q v r) t.rest d)
  unasked_deepens false p q t d = subst (λ v. Deepens g true Sort.items n q v r) t.rest d

-- a token that was seen, and that is allowed there
module _ {y : (k : Kind) → Reading (sort k)} {s : Sort} {old new : Cursor} where
  pub admitted : (p : Token → Reading s) {x : Token} {f : Token → Bool} {b : Bool} {q : Reading s} {e : Of s} {r : List Token} → Takes x old new → f x ≡ true → b ≡ true → Reads y s (p x) (left new) e r → Reads y s (peek f (allowed b (take p)) q) (left old) e r
  admitted p {f} {b} {q} {e} {r} t h i d = subst (λ v. Reads y s (peek f (allowed b (take p)) q) v e r) (sym t.token) (sees h (allowed_reads i (takes d)))

  pub admitted_fails : {w : Why} (p : Token → Reading s) {x : Token} {f : Token → Bool} {b : Bool} {q : Reading s} {r : List Token} → Takes x old new → f x ≡ true → b ≡ true → Fails y w s (p x) (left new) r → Fails y w s (peek f (allowed b (take p)) q) (left old) r
  admitted_fails {w} p {f} {b} {q} {r} t h i d = subst (λ v. Fails y w s (peek f (allowed b (take p)) q) v r) (sym t.token) (sees_fails h (allowed_fails i (takes_fails d)))

allowed_same : {s : Sort} {f : Token → Bool} {b : Bool} (p q : Reading s) → b ≡ true → peek f (allowed b p) q ≡ peek f p q
allowed_same p q is = rw is refl

pub admitted_deepens : {g : Rules} {a : Bool} {s : Sort} {n : ℕ} {old new : Cursor} {r : List Token} (p : Token → Reading s) {x : Token} {f : Token → Bool} {b : Bool} {q : Reading s} → Takes x old new → f x ≡ true → b ≡ true → Deepens g a s n (p x) (left new) r → Deepens g true s n (peek f (allowed b (take p)) q) (left old) r
admitted_deepens {g} {s} {n} {old} {r} p {q = q} t h i w = subst (λ v. Deepens g true s n v (left old) r) (sym (allowed_same (take p) q i)) (took_deepens t h w)

expected : {g : Rules} {s : Sort} {n : ℕ} {f : Token → Bool} {p : Reading s} {ts r : List Token} {e : Of s} → ((us : List Token) → Deep g s n p us) → Reads (grammar g) s (peek f (take (λ _. p)) refuse) ts e r → n < size s e
expected {r = r} {e = e} keeps (sees h (takes {ts = us} d)) = (keeps us).too_high e r d
expected keeps (misses h d) = elim d [ ]

-- the token after the items of braces
pub brace_ends : {y : (k : Kind) → Reading (sort k)} (b : Bool) {e : Expr} {ts : List Token} → (b ≡ true → next_passes (is_sign Assign) ts ≡ true) → Reads y Sort.expr (after_brace b e) ts e ts
brace_ends true h = sees (h refl) gives
brace_ends false h = gives

pub brace_fails : {y : (k : Kind) → Reading (sort k)} (b : Bool) (e : Expr) {ts : List Token} → b ≡ true → next_passes (is_sign Assign) ts ≡ false → Fails y by_form Sort.expr (after_brace b e) ts ts
brace_fails true e is h = misses_fails h refuses
brace_fails false e is h = absurd cc

pub brace_keeps : (b : Bool) (e : Expr) (Q : Expr → Type 0) → Q e → Meets Sort.expr (after_brace b e) Q
brace_keeps true e Q m = (m, tt)
brace_keeps false e Q m = m

pub expect_deep : {g : Rules} {s : Sort} {n : ℕ} {f : Token → Bool} {p : Reading s} → ((us : List Token) → Deep g s n p us) → (ts : List Token) → Deep g s n (peek f (take (λ _. p)) refuse) ts
expect_deep keeps ts = record { too_high = λ e r d. expected keeps d }

-- if pieces with `?` are allowed, a member before them is one of those that are allowed
pub piece_reads : {y : (k : Kind) → Reading (sort k)} {i o : Bool} {f : Items → Items} {ts r : List Token} {e : Items} → o ≡ true → Reads y Sort.items (after_member i o f) ts e r → Reads y Sort.items (after_member i true f) ts e r
piece_reads {y} {i} {f = f} {ts} {r} {e} is d = subst (λ v. Reads y Sort.items (after_member i v f) ts e r) is d

pub piece_fails : {w : Why} {y : (k : Kind) → Reading (sort k)} {i o : Bool} {f : Items → Items} {ts r : List Token} → o ≡ true → Fails y w Sort.items (after_member i o f) ts r → Fails y w Sort.items (after_member i true f) ts r
piece_fails {w} {y} {i} {f = f} {ts} {r} is d = subst (λ v. Fails y w Sort.items (after_member i v f) ts r) is d

pub piece_deepens : {g : Rules} {n : ℕ} {i o : Bool} {f : Items → Items} {ts r : List Token} → o ≡ true → Deepens g true Sort.items n (after_member i o f) ts r → Deepens g true Sort.items n (after_member i true f) ts r
piece_deepens {g} {n} {i} {f = f} {ts} {r} is d = subst (λ v. Deepens g true Sort.items n (after_member i v f) ts r) is d

bool_cases : (b : Bool) → (b ≡ true → ⊥) → b ≡ false
bool_cases true h = absurd (h refl)
bool_cases false h = refl

-- a name that may not be called, by whoever asks for no less
pub not_called : {a b : Bool} → (a ≡ true → b ≡ true) → b ≡ false → a ≡ false
not_called {a} h is = bool_cases a (λ e. let t = h e in absurd cc)

module _ {names : Names} {i : Bool} {room : ℕ} {old new : Cursor} where
  pub unnamed_refused : {f : Fault} → f ≡ Unexpected → ((k : Expr → Reading Sort.expr) (g : Rules) → Admits g (strict names) → Fails (grammar g) by_form Sort.expr (member_name i k) (left old) (left new)) → IsUnnamed names i room old new f
  unnamed_refused is d = subst (λ v. IsUnnamed names i room old new v) (sym is) (record {
    fails = d;
    stands = tt;
    deep = λ h. absurd cc;
    long = λ h. absurd cc;
  })

  pub unnamed_memory : {f : Fault} → f ≡ Memory → IsUnnamed names i room old new f
  unnamed_memory is = subst (λ v. IsUnnamed names i room old new v) (sym is) (record {
    fails = λ k g b. absurd b;
    stands = tt;
    deep = λ h. absurd cc;
    long = λ h. absurd cc;
  })

pub unmade_constant : (names : Names) (i : Bool) (room : ℕ) (old new : Cursor) (l : Literal) (result : Result Node Fault) → MatchResult result (λ n. root n.tree ≡ tree.literal l) (λ f. f ≡ Memory) → IfErr result (λ f. IsUnnamed names i room old new f)
unmade_constant names i room old new l (Ok n) m = tt
unmade_constant names i room old new l (Err f) m = unnamed_memory m

pub if_constant : (P : Expr → Type 0) (l : Literal) (result : Result Node Fault) → MatchResult result (λ n. root n.tree ≡ tree.literal l) (λ f. f ≡ Memory) → P (tree.literal l) → IfOk result (λ n. P (root n.tree))
if_constant P l (Ok n) m p = subst P (sym m) p
if_constant P l (Err f) m p = tt

-- The conditions of a reading of statements on labels, and on the loops around a jump.
use Rattle.std.proofs.Common.{ℕ, ◌≤◌, List, [], ◌∷◌, ◌≡◌, refl, ap, sym, ◌∙◌, subst, Bool, true, false, not, ◌||◌, Option, Some, None, is_some, reverse, length, MatchOption, arith}
use Rattle.std.proofs.lemmas.List.{length-reverse}
use Rattle.moo_syntax_token.specs.declared.keyword.Keyword.{Keyword}
use Rattle.moo_syntax_token.specs.declared.keyword.Keyword.TheVariants.{Break, Continue}
use Rattle.moo_syntax_token.specs.declared.sign.Sign.TheVariants.{Semicolon}
use Rattle.moo_syntax_token.specs.declared.token.Token.{Token}
use Rattle.moo_syntax_token.specs.declared.token.Token.TheVariants as token
use Rattle.moo_syntax_token.specs.declared.token.Token.TheVariants.{Name}
use Rattle.moo_syntax_ast.specs.Tree.{Stmt}
use Rattle.moo_syntax_grammar.specs.declared.names.Names.{Names}
use Rattle.moo_syntax_grammar.specs.Rules.{Rules, has_loop, may_jump}
use Rattle.moo_syntax_grammar.specs.Tokens.{is_sign, is_keyword, name_at, next_passes}
use Rattle.moo_syntax_grammar.specs.Grammar.{Sort, label}
use Rattle.moo_syntax_grammar.specs.Machine.{Reading, give, Reads, gives, misses, by_form, by_rule, Fails, refuses, forbids, sees_fails, misses_fails}
use Rattle.moo_syntax_grammar.specs.Predictive.{grammar, expect, loop_at, after_jump}
use Rattle.moo_syntax_grammar.specs.Depth.{Deep}
use Rattle.moo_syntax.specs.declared.cursor.Cursor.{Cursor}
use Rattle.moo_syntax.specs.declared.fault.Fault.{Fault}
use Rattle.moo_syntax.specs.declared.fault.Fault.TheVariants.{TooDeep, Memory}
use Rattle.moo_syntax.specs.Cursor.{left, Takes, Stays}
use Rattle.moo_syntax.specs.Places.{is_jump, IsJump, at_name}
use Rattle.moo_syntax.specs.Statements.{HasNotJumped}
use Rattle.moo_syntax.proofs.Blocks.{statement_height_positive}
use Rattle.moo_syntax.specs.Outgrown.{can_give, can_take, can_miss, at_once}
use Rattle.moo_syntax.proofs.Steps.{took, took_fails, stayed, stayed_fails, admitted_deepens}

-- a label that was read, or none
pub label_reads : (old new : Cursor) (found : Option (List ℕ)) → MatchOption found (Stays (λ x. is_some (name_at x)) old new) (λ s. Takes (Name s) old new) → (g : Rules) → Reads (grammar g) Sort.label_name (grammar g label) (left old) found (left new)
unfolding grammar
label_reads old new None t g = stayed t gives
label_reads old new (Some s) t g = took t refl gives

pub label_at : (old new : Cursor) (found : Option (List ℕ)) → MatchOption found (Stays (λ x. is_some (name_at x)) old new) (λ s. Takes (Name s) old new) → old.at ≤ new.at
label_at old new None t = omega (arith, t.at)
label_at old new (Some s) t = omega (arith, t.at)

-- if no statement fits
pub no_statement_room : {g : Rules} {n : ℕ} {p : Reading Sort.stmt} {ts : List Token} → n ≡ 0 → Deep g Sort.stmt n p ts
no_statement_room z = record { too_high = λ e r d. omega (arith, z, statement_height_positive e) }

or_true : (b t : Bool) → t ≡ true → (b || t) ≡ true
or_true true t h = refl
or_true false t h = h

or_false : (b t : Bool) → b ≡ true → t ≡ false → (not b || t) ≡ false
or_false true t h e = e
or_false false t h e = absurd cc

-- a jump that all rules allow there
pub loop_jumps : (g : Rules) (ls : List (Option (List ℕ))) (n : Option (List ℕ)) → has_loop ls n ≡ true → may_jump g ls n ≡ true
loop_jumps g ls n h = or_true (not g.loops) (has_loop ls n) h

-- a jump that may not, where loops are asked for
pub no_loop_jumps : (g : Rules) (ls : List (Option (List ℕ))) (n : Option (List ℕ)) → g.loops ≡ true → has_loop ls n ≡ false → may_jump g ls n ≡ false
no_loop_jumps g ls n h e = or_false g.loops (has_loop ls n) h e

pub loop_named : (g : Rules) (ls : List (Option (List ℕ))) (x : List ℕ) → has_loop ls (Some x) ≡ true → loop_at g ls (Name x) ≡ Some x
loop_named g ls x h = let m = loop_jumps g ls (Some x) h in rw m refl

pub loop_unnamed : (g : Rules) (ls : List (Option (List ℕ))) (x : List ℕ) → g.loops ≡ true → has_loop ls (Some x) ≡ false → loop_at g ls (Name x) ≡ None
loop_unnamed g ls x a h = let m = no_loop_jumps g ls (Some x) a h in rw m refl

pub no_loop_named : (g : Rules) (ls : List (Option (List ℕ))) (ts : List Token) → next_passes (λ x. is_some (name_at x)) ts ≡ false → next_passes (λ x. is_some (loop_at g ls x)) ts ≡ false
no_loop_named g ls [] h = refl
no_loop_named g ls (Name x ∷ r) h = absurd cc
no_loop_named g ls (_ ∷ r) h = refl

pub empty_list : {X : Type 0} (xs : List X) → length xs ≡ 0 → xs ≡ []
empty_list [] h = refl
empty_list (x ∷ xs) h = absurd (omega (arith, h))

at_least_one : (rs ls : List (Option (List ℕ))) → length rs ≡ length ls → (ls ≡ [] → ⊥) → has_loop rs None ≡ true
at_least_one [] [] e h = absurd (h refl)
at_least_one [] (l ∷ ls) e h = absurd cc
at_least_one (r ∷ rs) ls e h = refl

pub some_loops : (ls : List (Option (List ℕ))) → (ls ≡ [] → ⊥) → has_loop (reverse ls) None ≡ true
some_loops ls h = at_least_one (reverse ls) ls (length-reverse ls) h

pub break_jumps : (ts : List Token) → next_passes (is_keyword Break) ts ≡ true → next_passes is_jump ts ≡ true
break_jumps [] h = absurd cc
break_jumps (x ∷ ts) h = rw h refl

pub continue_jumps : (ts : List Token) → next_passes (is_keyword Continue) ts ≡ true → next_passes is_jump ts ≡ true
continue_jumps [] h = absurd cc
continue_jumps (x ∷ ts) h = or_true (is_keyword Break x) (is_keyword Continue x) h

-- a name after a jump
pub jump_name : {k : Keyword} {old new : Cursor} {name : List ℕ} {rest : List Token} → Takes (token.Keyword k) old new → next_passes is_jump (left old) ≡ true → left new ≡ Name name ∷ rest → IsJump new.spots.now new.at
jump_name {k} {old} {new} t j n = subst (λ v. IsJump v new.at) (sym t.spots) (subst (λ v. IsJump old.spots.now v) (sym t.at) (at_name old.at (subst (λ v. next_passes is_jump v ≡ true) t.token j) (t.token ∙ ap (λ ts. token.Keyword k ∷ ts) n)))

pub jump_memory : {names : Names} {k : Keyword} {ls : List (Option (List ℕ))} {room : ℕ} {old new : Cursor} {f : Fault} → f ≡ Memory → HasNotJumped names k ls room old new f
jump_memory {names} {k} {ls} {room} {old} {new} is = subst (λ v. HasNotJumped names k ls room old new v) (sym is) (record {
  fails = λ h q g b. absurd b;
  stands = tt;
  deep = λ h. absurd cc;
  long = λ h. absurd cc;
})

-- a jump that does not fit
pub jump_too_deep : {names : Names} {k : Keyword} {ls : List (Option (List ℕ))} {room : ℕ} {old new : Cursor} {f : Fault} → f ≡ TooDeep → room ≡ 0 → Takes (token.Keyword k) old new → is_keyword k (token.Keyword k) ≡ true → has_loop ls None ≡ true → HasNotJumped names k ls room old new f
jump_too_deep {names} {k} {ls} {room} {old} {new} is z t same l = subst (λ v. HasNotJumped names k ls room old new v) (sym is) (record {
  fails = λ h q g b. absurd b;
  stands = tt;
  deep = λ e g ok h q. admitted_deepens (λ _. after_jump g ls h) t same (loop_jumps g ls None l) (at_once (can_miss refl (can_miss refl (can_take (token.Sign Semicolon) refl can_give))) (λ us. no_statement_room z));
  long = λ h. omega (arith, z, t.at);
})

module _ (g : Rules) (ls : List (Option (List ℕ))) (h : Option (List ℕ) → Stmt) (old mid new : Cursor) where
  -- the name after a jump, or none, and its end
  pub jump_ends : (found : Option (List ℕ)) → MatchOption found (Stays (λ x. is_some (name_at x)) old mid) (λ s. Takes (Name s) old mid) → ((x : List ℕ) (r : List Token) → left old ≡ Name x ∷ r → has_loop ls (Some x) ≡ true) → Takes (token.Sign Semicolon) mid new → Reads (grammar g) Sort.stmt (after_jump g ls h) (left old) (h found) (left new)
  jump_ends None t k s = misses (no_loop_named g ls (left old) t.other) (misses t.other (subst (λ v. Reads (grammar g) Sort.stmt (expect Semicolon (give (h None))) v (h None) (left new)) t.rest (took s refl gives)))
  jump_ends (Some x) t k s =
      let named = loop_named g ls x (k x (left mid) t.token) in
      took t (ap is_some named) (rw named (took s refl gives))

  pub jump_unended : (found : Option (List ℕ)) → MatchOption found (Stays (λ x. is_some (name_at x)) old mid) (λ s. Takes (Name s) old mid) → ((x : List ℕ) (r : List Token) → left old ≡ Name x ∷ r → has_loop ls (Some x) ≡ true) → Stays (is_sign Semicolon) mid new → Fails (grammar g) by_form Sort.stmt (after_jump g ls h) (left old) (left new)
  jump_unended None t k s = misses_fails (no_loop_named g ls (left old) t.other) (misses_fails t.other (subst (λ v. Fails (grammar g) by_form Sort.stmt (expect Semicolon (give (h None))) v (left new)) t.rest (stayed_fails s refuses)))
  jump_unended (Some x) t k s = took_fails t (ap is_some (loop_named g ls x (k x (left mid) t.token))) (stayed_fails s refuses)

  -- a name that none of the loops has
  pub jump_refused : {x : List ℕ} {r : List Token} → g.loops ≡ true → has_loop ls (Some x) ≡ false → left old ≡ Name x ∷ r → Fails (grammar g) by_rule Sort.stmt (after_jump g ls h) (left old) (left old)
  jump_refused {x} {r} a e is = subst (λ v. Fails (grammar g) by_rule Sort.stmt (after_jump g ls h) v v) (sym is) (misses_fails (ap is_some (loop_unnamed g ls x a e)) (sees_fails refl forbids))

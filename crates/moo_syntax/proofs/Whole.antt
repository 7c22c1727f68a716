-- The consequences of the parser's outcome for whole texts.
use Rattle.std.proofs.Common.{ℕ, zero, suc, ◌≤◌, ◌<◌, ap, Bool, true, List, [], ◌∷◌, ◌++◌, ◌≡◌, refl, sym, subst, length, take, drop, arith, ◌+◌, ◌-◌, ◌∙◌, length-drop}
use Rattle.std.proofs.lemmas.List.{take-append-drop, drop_all}
use Rattle.moo_syntax_token.specs.declared.token.Token.{Token}
use Rattle.moo_syntax_token.specs.declared.token.Token.TheVariants as token
use Rattle.moo_syntax_token.specs.declared.token.Spot.{Spot}
use Rattle.moo_syntax_token.specs.Lexing.{IsReading}
use Rattle.moo_syntax_token.proofs.Readings.{bad_is_last}
use Rattle.moo_syntax_ast.specs.Tree.{Block}
use Rattle.moo_syntax_ast.specs.Limits.{most_nodes}
use Rattle.moo_syntax_grammar.specs.declared.names.Names.{Names}
use Rattle.moo_syntax_grammar.specs.Rules.{Rules, Admits, loose, strict}
use Rattle.moo_syntax.specs.declared.fault.Fault.{Fault}
use Rattle.moo_syntax.specs.declared.fault.Fault.TheVariants.{Unexpected, BadTarget, UnknownFunction, BadLoopName, TooDeep, Memory}
use Rattle.moo_syntax.specs.declared.cursor.Cursor.{Cursor}
use Rattle.moo_syntax.specs.Cursor.{left}
use Rattle.moo_syntax.specs.Outcome.{ToldBy, why, HasFailed}
use Rattle.moo_syntax.specs.Stops.{Passes, StopsBy}
use Rattle.moo_syntax_grammar.specs.Tokens.{words, is_sign, is_bad, next_passes}
use Rattle.moo_syntax.specs.Programs.{SameUpTo, NoProgram, BeginsProgram, BeginsSome, with_targets, with_functions, with_loops, IsBadToken, by_nodes, line_of}
use Rattle.moo_syntax.specs.Places.{is_jump, IsJump, at_keyword, at_name, IsCalled}
use Rattle.moo_syntax.specs.Outgrown.{Deepens}
use Rattle.moo_syntax_token.specs.declared.sign.Sign.TheVariants as sign
use Rattle.moo_syntax_grammar.specs.Grammar.{IsProgramBy, statements, block}
use Rattle.moo_syntax_grammar.specs.Machine.{Reads, Why, by_rule, Fails}
use Rattle.moo_syntax_grammar.specs.Predictive.{grammar}
use Rattle.moo_syntax_grammar.specs.Agree.{Agree, at_end, here, next}
use Rattle.moo_syntax_grammar.proofs.MachineLemmas.{whole, reads_once, reads_again, fails_again}
use Rattle.moo_syntax_grammar.proofs.Complete.{complete}
use Rattle.moo_syntax_grammar.proofs.Begun.{program_begun}
use Rattle.moo_syntax_grammar.proofs.Admitted.{admitted, loose_admits}
use Rattle.moo_syntax.proofs.Passing.{failure_passes}
use Rattle.moo_syntax.proofs.Words.{words_drop, words_length}
use Rattle.moo_syntax.proofs.Before.{here_at, next_at, each_before, begins_before}
use Rattle.moo_syntax.proofs.Reached.{begins_until, begins_before_rest}
use Rattle.moo_syntax.proofs.Told.{told_target, told_call, told_jump}

-- where the reading gives up, no tokens that agree up to the place are a program
no_program : {g : Rules} {w : Why} {ts at us : List Token} {b : Block} → Fails (grammar g) w block (grammar g (statements [])) ts at → Agree at ts us → IsProgramBy g us b → ⊥
no_program {g} f a d = fails_again (grammar g) f a (complete d refl)

no_end : {x : Token} {at ts : List Token} → Agree at (x ∷ ts) [] → ⊥
no_end a = elim a [ ]

-- if the program ends and tokens are left, no tokens that agree with these are a program
no_program_before : {g : Rules} {x : Token} {ts r us : List Token} {b c : Block} → Reads (grammar g) block (grammar g (statements [])) ts b (x ∷ r) → Agree (x ∷ r) ts us → IsProgramBy g us c → ⊥
no_program_before {g} {x} {r = r} d a c =
    let t = reads_again (grammar g) d whole a in
    let o = reads_once (grammar g) t.1 (complete c refl) in
    no_end (subst (λ v. Agree (x ∷ r) (x ∷ r) v) o.1 t.2)

agree_of_take : (n : ℕ) (ts us : List Token) → n ≤ length ts → take (suc n) us ≡ take (suc n) ts → Agree (drop n ts) ts us
agree_of_take zero [] [] h e = at_end
agree_of_take zero [] (y ∷ us) h e = absurd cc
agree_of_take zero (x ∷ ts) [] h e = absurd cc
agree_of_take zero (x ∷ ts) (y ∷ us) h e = here_at ts us (cc)
agree_of_take (suc n) [] us h e = absurd (omega arith)
agree_of_take (suc n) (x ∷ ts) [] h e = absurd cc
agree_of_take (suc n) (x ∷ ts) (y ∷ us) h e = next_at (cc) (agree_of_take n ts us (omega arith) (cc))

agree_at : (n : ℕ) (ss : List Spot) (us : List Token) → n ≤ length ss → SameUpTo n (words ss) us → Agree (words (drop n ss)) (words ss) us
agree_at n ss us h e = rw words_drop (agree_of_take n (words ss) us (omega (arith, words_length ss)) e)

refused_at : (g : Rules) {w : Why} (n : ℕ) (ss : List Spot) → n ≤ length ss → Fails (grammar g) w block (grammar g (statements [])) (words ss) (words (drop n ss)) → NoProgram g (words ss) n
refused_at g n ss h f = (omega (arith, words_length ss), λ us e same d. no_program f (agree_at n ss us h same) d)

next_word : (n : ℕ) (ss : List Spot) → n < length ss → (x : Token) × (r : List Token) × (words (drop n ss) ≡ x ∷ r)
next_word n [] h = absurd (omega arith)
next_word zero (x ∷ ss) h = (_, _, refl)
next_word (suc n) (x ∷ ss) h = next_word n ss (omega arith)

pub refused_before : (g : Rules) (n : ℕ) (ss : List Spot) (b : Block) → n < length ss → Reads (grammar g) block (grammar g (statements [])) (words ss) b (words (drop n ss)) → NoProgram g (words ss) n
refused_before g n ss b h d =
    let w = next_word n ss h in
    let again = subst (λ v. Reads (grammar g) block (grammar g (statements [])) (words ss) b v) w.2 d in (
      omega (arith, words_length ss),
      λ us e same c. no_program_before again (subst (λ v. Agree v (words ss) us) w.2 (agree_at n ss us (omega arith) same)) c,
    )

-- some loose program begins with the tokens of one that ended before others
pub begins_before_others : (n : ℕ) (ss : List Spot) (b : Block) → n < length ss → Reads (grammar loose) block (grammar loose (statements [])) (words ss) b (words (drop n ss)) → BeginsSome loose (words ss) n
begins_before_others n ss b h d = begins_before_rest n (omega (arith, h, words_length ss)) (sym (words_drop n ss)) d

bad_token : (x : Token) → is_bad x ≡ true → x ≡ token.Bad
bad_token token.Bad h = refl
bad_token _ h = absurd cc

bad_next : (lines : List (List ℕ)) (front ss : List Spot) → IsReading lines (front ++ ss) → next_passes is_bad (words ss) ≡ true → IsBadToken lines (line_of lines ss)
bad_next lines front [] r h = absurd cc
bad_next lines front (s ∷ ss) r h =
    let bad = bad_token s.token h in
    let last = bad_is_last lines front ss s r bad in
    record {
      before = front;
      reading = subst (λ v. IsReading lines (front ++ record { token = v; line = s.line } ∷ [])) bad (subst (λ v. IsReading lines (front ++ s ∷ v)) last.0 r);
      none = last.1;
    }

-- a bad token of the text
pub bad_at : (lines : List (List ℕ)) (spots : List Spot) (at : ℕ) → IsReading lines spots → next_passes is_bad (words (drop at spots)) ≡ true → IsBadToken lines (line_of lines (drop at spots))
bad_at lines spots at r h = bad_next lines (take at spots) (drop at spots) (subst (IsReading lines) (sym (take-append-drop at spots)) r) h

taken_alike : {at ts us : List Token} → Agree at ts us → (n : ℕ) → drop n ts ≡ at → take (suc n) us ≡ take (suc n) ts
taken_alike at_end n e = refl
taken_alike here zero e = refl
taken_alike (here {ts = ts}) (suc n) e = absurd (omega (arith, ap length e, length-drop n ts))
taken_alike (next a) zero e = refl
taken_alike (next {x = x} a) (suc n) e = ap (λ v. x ∷ v) (taken_alike a n e)

-- a token comes next
abbrev HasNext : List Token → Type 0
HasNext ts = (x : Token) × (r : List Token) × (ts ≡ x ∷ r)

-- where a rule alone stopped the reading, a loose program begins so
begins_at : (g : Rules) (n : ℕ) (ss : List Spot) → HasNext (words (drop n ss)) → Fails (grammar g) by_rule block (grammar g (statements [])) (words ss) (words (drop n ss)) → BeginsProgram loose (words ss) n
begins_at g n ss more f =
    let b = program_begun g (subst (λ v. Fails (grammar g) by_rule block (grammar g (statements [])) (words ss) v) more.2 f) in
    record { tokens = b.0; tree = b.1; same = taken_alike b.2 n (sym (words_drop n ss) ∙ more.2); program = b.3 }

next_of : (f : Token → Bool) (ts : List Token) → next_passes f ts ≡ true → HasNext ts
next_of f [] h = absurd cc
next_of f (x ∷ r) h = (x, r, refl)

drop_next : (n : ℕ) (ts : List Token) {x : Token} {r : List Token} → drop n ts ≡ x ∷ r → drop (suc n) ts ≡ r
drop_next zero [] e = absurd cc
drop_next zero (y ∷ ts) e = cc
drop_next (suc n) [] e = absurd cc
drop_next (suc n) (y ∷ ts) e = drop_next n ts e

-- the token after the first of two tokens
next_after : (n : ℕ) (ss : List Spot) {x y : Token} {r : List Token} → words (drop n ss) ≡ x ∷ y ∷ r → HasNext (words (drop (n + 1) ss))
next_after n ss {y = y} {r = r} e =
    let one : n + 1 ≡ suc n = omega arith in
    (y, r, subst (λ k. words (drop k ss) ≡ y ∷ r) (sym one) (words_drop (suc n) ss ∙ drop_next n (words ss) (sym (words_drop n ss) ∙ e)))

called_next : (spots : List Spot) (at : ℕ) {s : List ℕ} → IsCalled spots at s → HasNext (words (drop at spots))
called_next spots at c = subst (λ n. HasNext (words (drop n spots))) (sym c.place) (next_after c.before spots c.called)

jump_next : (spots : List Spot) (at : ℕ) → IsJump spots at → HasNext (words (drop at spots))
jump_next spots at (at_keyword h) = next_of is_jump (words (drop at spots)) h
jump_next spots at (at_name before h e) = next_after before spots e

pub targets_admit : (names : Names) → Admits with_targets (strict names)
targets_admit names = record { targets = λ e. refl; functions = λ s e. refl; loops = λ e. absurd cc }

pub loops_admit : (names : Names) → Admits with_loops (strict names)
loops_admit names = record { targets = λ e. absurd cc; functions = λ s e. refl; loops = λ e. refl }

pub functions_admit : (names : Names) → Admits (with_functions names) (strict names)
functions_admit names = record { targets = λ e. absurd cc; functions = λ s e. e; loops = λ e. absurd cc }

module _ (names : Names) (spots : List Spot) (old new : Cursor) (from : left old ≡ words spots) (same : new.spots.now ≡ spots) where
  to : left new ≡ words (drop new.at spots)
  to = ap (λ v. words (drop new.at v)) same

  reached : new.at ≤ length spots
  reached = subst (λ v. new.at ≤ length v) same new.in_range

  failed_at : (f : Fault) (g : Rules) → HasFailed names (statements []) most_nodes old new f → ToldBy f names g → Fails (grammar g) (why f) block (grammar g (statements [])) (words spots) (words (drop new.at spots))
  failed_at f g w b = subst (λ v. Fails (grammar g) (why f) block (grammar g (statements [])) (words spots) v) to (subst (λ v. Fails (grammar g) (why f) block (grammar g (statements [])) v (left new)) from (w.fails g b))

  told_at : (f : Fault) (g : Rules) → HasFailed names (statements []) most_nodes old new f → ToldBy f names g → NoProgram g (words spots) new.at
  told_at f g w b =
      let within : new.at ≤ length spots = subst (λ v. new.at ≤ length v) same new.in_range in
      refused_at g new.at spots within (failed_at f g w b)

  high_at : HasFailed names (statements []) most_nodes old new TooDeep → Deepens loose true block most_nodes (grammar loose (statements [])) (words spots) (words (drop new.at spots))
  high_at w =
      let p = grammar loose (statements []) in
      subst (λ v. Deepens loose true block most_nodes p (words spots) v) to (subst (λ v. Deepens loose true block most_nodes p v (left new)) from (w.deep refl loose (loose_admits (strict names))))

  -- the meaning of the place at which the reading of statements stopped
  pub stop_of : (f : Fault) → old.at ≡ 0 → HasFailed names (statements []) most_nodes old new f → StopsBy names spots new.at f
  stop_of Unexpected z w = record {
    begins = begins_until new.at (omega (arith, reached, words_length spots)) (sym (words_drop new.at spots)) (failed_at Unexpected loose w (loose_admits (strict names)));
    none = told_at Unexpected loose w (loose_admits (strict names));
    passes = subst (λ v. Passes (words spots) v) to (subst (λ v. Passes v (left new)) from (failure_passes loose (w.fails loose (loose_admits (strict names)))));
  }
  stop_of BadTarget z w = record {
    assigned = told_target spots new.at reached (subst (λ v. next_passes (is_sign sign.Assign) v ≡ true) to w.stands) (failed_at BadTarget with_targets w (targets_admit names, refl));
    none = told_at BadTarget with_targets w (targets_admit names, refl);
    begins = begins_at with_targets new.at spots (next_of (is_sign sign.Assign) _ (subst (λ v. next_passes (is_sign sign.Assign) v ≡ true) to w.stands)) (failed_at BadTarget with_targets w (targets_admit names, refl));
  }
  stop_of UnknownFunction z w = record {
    name = w.stands.0;
    unknown = w.stands.1;
    call = subst (λ v. IsCalled v new.at w.stands.0) same w.stands.2;
    free = told_call spots new.at reached names w.stands.0 (subst (λ v. IsCalled v new.at w.stands.0) same w.stands.2) (failed_at UnknownFunction (with_functions names) w (functions_admit names, λ s e. e));
    none = told_at UnknownFunction (with_functions names) w (functions_admit names, λ s e. e);
    begins = begins_at (with_functions names) new.at spots (called_next spots new.at (subst (λ v. IsCalled v new.at w.stands.0) same w.stands.2)) (failed_at UnknownFunction (with_functions names) w (functions_admit names, λ s e. e));
  }
  stop_of BadLoopName z w = record {
    jumps = told_jump spots new.at reached (failed_at BadLoopName with_loops w (loops_admit names, refl));
    none = told_at BadLoopName with_loops w (loops_admit names, refl);
    begins = begins_at with_loops new.at spots (jump_next spots new.at (subst (λ v. IsJump v new.at) same w.stands)) (failed_at BadLoopName with_loops w (loops_admit names, refl));
  }
  stop_of TooDeep z w =
      let within : new.at ≤ length (words spots) = omega (arith, reached, words_length spots) in
      let after = sym (words_drop new.at spots) in
      let deep = high_at w in
      let each = each_before loose new.at within after deep in
      record {
        within = reached;
        outside = λ b e l. let h = each (words spots) b refl (admitted (loose_admits (strict names)) e) in omega (arith, h, l.program.nodes);
        exceeds = by_nodes (omega (arith, w.long refl, z)) each (begins_before loose new.at within after deep);
      }
  stop_of Memory z w = tt

pub words_left : (n : ℕ) (ss : List Spot) → length (words (drop n ss)) ≡ length (words ss) - n
words_left n ss = omega (arith, words_length ss, words_length (drop n ss), length-drop n ss)

-- a parenthesis calls one name
pub same_call : (spots : List Spot) (at : ℕ) (s t : List ℕ) → IsCalled spots at s → IsCalled spots at t → s ≡ t
same_call spots at s t p q =
    let place : p.before ≡ q.before = omega (arith, p.place, q.place) in
    let same : (token.Name s ∷ token.Sign sign.LeftParen ∷ p.rest) ≡ (token.Name t ∷ token.Sign sign.LeftParen ∷ q.rest) = sym p.called ∙ ap (λ n. words (drop n spots)) place ∙ q.called in
    cc

pub nothing_left : (n : ℕ) (spots : List Spot) → length spots ≤ n → words (drop n spots) ≡ []
nothing_left n spots h = ap words (drop_all n spots h)

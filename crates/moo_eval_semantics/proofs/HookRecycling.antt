-- What a call of `recycle` comes to, from its begin to its end.
use Rattle.std.proofs.Common.{◌≡◌, ℕ, ℤ, pos, List, [], ◌∷◌, ◌++◌, codes, Bool, true, false, Option, None, Some, Result, Ok, Err, if◌then◌else◌, refl, sym, subst}
use Rattle.moo_value.specs.declared.error_code.ErrorCode.{ErrorCode}
use Rattle.moo_value.specs.declared.error_code.ErrorCode.TheVariants.{Permission}
use Rattle.moo_value.specs.Tree.{Tree, integer, object}
use Rattle.moo_syntax_function.specs.declared.function.Function.TheVariants as function
use Rattle.moo_world_table.specs.World.{World}
use Rattle.moo_world.specs.Calls.{number_of}
use Rattle.moo_world.specs.RecycleCalls.{recycle_raises}
use Rattle.moo_world.specs.Rights.{may_own}
use Rattle.moo_eval_frame.specs.declared.notice.Notice.TheVariants.{Recycle}
use Rattle.moo_eval_frame.specs.Outcome.{Stop, Failure, fails, stops, Flow}
use Rattle.moo_eval_frame.specs.State.{Context}
use Rattle.moo_eval_access.specs.State.{State}
use Rattle.moo_eval_access.specs.Entering.{Entered}
use Rattle.moo_builtin.specs.Telling.{Telling}
use Rattle.moo_eval_semantics.specs.declared.stage.Stage.{Stage}
use Rattle.moo_eval_semantics.specs.declared.stage.Stage.TheVariants.{Emptying, Recycled}
use Rattle.moo_eval_semantics.specs.Progressing.{calling, Progress, done, verb_next, stage_next, refuses, after_raise, is_missing, through, hooked, hook}
use Rattle.moo_builtin_world.specs.Objects.{is_valid}
use Rattle.moo_eval_semantics.specs.Objects.{first_inside}
use Rattle.moo_eval_semantics.specs.Recycling.{recycle_calls, recycling, taken_away, moved_out, emptied}
use Rattle.moo_eval_semantics.specs.Stages.{resumed}
use Rattle.moo_eval_semantics.specs.VerbCalls.{Starts, refused, starts}
use Rattle.moo_eval_semantics.specs.Operands.{answered, begun, left}
use Rattle.moo_eval_semantics.specs.Meaning.{RunsAll, Proceeds, is_done, hook_stops, hook_then, at_once}
use Rattle.moo_eval_semantics.specs.Verbs.{entering, CallsVerb, passed_over, no_frame, runs}
use Rattle.moo_eval_semantics.specs.Recycles as law
use Rattle.moo_eval_semantics.specs.Recycles.{out_error, with_out, Empties, Recycles}
use Rattle.moo_eval_semantics.proofs.Called.{GoesOn, begun as begun_call, refused_object, valid_object}

-- a verb that was entered has run
record HasRun (T : Telling) (e : Entered) (s : State) (r : Result Tree Failure) (s' : State) : Type 0 where
  flow : Result Flow Stop
  last : State
  all : RunsAll T e.context e.context.frame.program (begun e s) flow last
  leaves : left s last ≡ s'
  gives : answered flow ≡ r

-- after a verb: it has failed, or the object is emptied further
data After (T : Telling) (c : Context) (o : ℤ) (e : Entered) : State → Result Tree Failure → State → Type 0 where
  stopped : {s s' : State} {failure : Failure} → HasRun T e s (Err failure) s' → After T c o e s (Err failure) s'
  went_on : {s s' s'' : State} {v : Tree} {r : Result Tree Failure} → HasRun T e s (Ok v) s' → Empties T c o s' r s'' → After T c o e s r s''

-- a verb of the object is called, and then it is emptied, if that has not failed
data Told (T : Telling) (c : Context) (o : ℤ) (s : State) (name : List ℕ) (vs : List Tree) : Result Tree Failure → State → Type 0 where
  fails_there : {s' : State} {failure : Failure} → CallsVerb T c (codes "recycle") o name vs s (Err failure) s' → Told T c o s name vs (Err failure) s'
  then_empties : {s' s'' : State} {v : Tree} {r : Result Tree Failure} → CallsVerb T c (codes "recycle") o name vs s (Ok v) s' → Empties T c o s' r s'' → Told T c o s name vs r s''

module _ (T : Telling) (c : Context) (o : ℤ) where
  -- what comes of each step
  abbrev Comes : Progress → State → Result Tree Failure → State → Type 0
  Comes (done r0) s r s' = (r ≡ r0) × (s' ≡ s)
  Comes (verb_next e at) s r s' = at ≡ Emptying o → After T c o e s r s'
  Comes (stage_next at) s r s' =
      (at ≡ Emptying o → Empties T c o s r s')
      × (at ≡ Recycled o → (r ≡ Ok (integer (pos 0))) × (s' ≡ record s { notices = s.notices ++ Recycle o ∷ [] }))

  abbrev ComesFrom : State → Progress × World → Result Tree Failure → State → Type 0
  ComesFrom s p r s' = Comes p.0 (record s { world = p.1 }) r s'

  raised_or : (s : State) {s' : State} {r : Result Tree Failure} (P : Type 0) (raises : Option ErrorCode) (next : Progress × World) →
      ((code : ErrorCode) → raises ≡ Some code → r ≡ Err (fails code) → s' ≡ s → P) → (raises ≡ None → ComesFrom s next r s' → P) → ComesFrom s (after_raise s.world raises next) r s' → P
  raised_or s P None next raised goes h = goes refl h
  raised_or s P (Some code) next raised goes h = raised code refl h.0 h.1

  ran_through : (s : State) {s' : State} {r : Result Tree Failure} (name : List ℕ) (vs : List Tree) (e : Entered) → entering c o name vs s ≡ Ok e → After T c o (through (codes "recycle") e) s r s' → Told T c o s name vs r s'
  ran_through s name vs e is (stopped a) = fails_there (runs is a.all a.leaves a.gives)
  ran_through s name vs e is (went_on a n) = then_empties (runs is a.all a.leaves a.gives) n

  missed : (s : State) {s' : State} {r : Result Tree Failure} (name : List ℕ) (vs : List Tree) (code : ErrorCode) (b : Bool) → is_missing code ≡ b → entering c o name vs s ≡ Err (fails code) →
      Comes (if b then stage_next (Emptying o) else refuses code) s r s' → Told T c o s name vs r s'
  missed s name vs code true m is h = then_empties (passed_over is m) (h.0 refl)
  missed s name vs code false m is h = rw (h.0, h.1) (fails_there (no_frame is m))

  told_by : (s : State) {s' : State} {r : Result Tree Failure} (name : List ℕ) (vs : List Tree) (e : Result Entered Failure) → entering c o name vs s ≡ e → Comes (hooked (codes "recycle") (Emptying o) e) s r s' → Told T c o s name vs r s'
  told_by s name vs (Ok e) is h = ran_through s name vs e is (h refl)
  told_by s name vs (Err (fails code)) is h = missed s name vs code (is_missing code) refl is h
  told_by s name vs (Err (stops stop)) is h = rw (h.0, h.1) (fails_there (no_frame is refl))

  telling : (s : State) {s' : State} {r : Result Tree Failure} (name : List ℕ) (vs : List Tree) → Comes (hook (calling c s) s.world (codes "recycle") o name vs (Emptying o)) s r s' → Told T c o s name vs r s'
  unfolding hook
  telling s name vs h = told_by s name vs (entering c o name vs s) refl h

  taken : (s : State) {s' : State} {r : Result Tree Failure} → first_inside s.world o ≡ None → ComesFrom s (taken_away s.world o) r s' → Empties T c o s r s'
  unfolding taken_away
  taken s {s' = s'} {r = r} none h =
      raised_or s (Empties T c o s r s') (recycle_raises (number_of s.world.objects o)) _
      (λ code e p q. rw (p, q) (law.gone_before none e))
      (λ e n. let is = n.1 refl in rw (is.0, is.1) (law.taken_away none e)) h

  out_then : (s : State) {s' : State} {r : Result Tree Failure} (inside : ℤ) → first_inside s.world o ≡ Some inside → out_error s inside ≡ None → Told T c o (with_out s inside) (codes "exitfunc") (object inside ∷ []) r s' → Empties T c o s r s'
  out_then s inside i e (fails_there d) = law.exit_fails i e d
  out_then s inside i e (then_empties d n) = law.moves_out i e d n

  out : (s : State) {s' : State} {r : Result Tree Failure} (inside : ℤ) → first_inside s.world o ≡ Some inside → ComesFrom s (moved_out (calling c s) s.world o inside) r s' → Empties T c o s r s'
  unfolding moved_out
  out s {s' = s'} {r = r} inside i h =
      raised_or s (Empties T c o s r s') (out_error s inside) _
      (λ code e p q. rw (p, q) (law.stays_inside i e))
      (λ e n. out_then s inside i e (telling (with_out s inside) (codes "exitfunc") (object inside ∷ []) n)) h

  emptying_by : (s : State) {s' : State} {r : Result Tree Failure} (inside : Option ℤ) → first_inside s.world o ≡ inside → ComesFrom s (emptied (calling c s) s.world o inside) r s' → Empties T c o s r s'
  emptying_by s None i h = taken s i h
  emptying_by s (Some inside) i h = out s inside i h

  abbrev Next : Stage → Tree → State → Result Tree Failure → State → Type 0
  Next at v s r s' = Comes (resumed c at v s).0 (resumed c at v s).1 r s'

  emptying : (at : Stage) (v : Tree) (s : State) {s' : State} {r : Result Tree Failure} → at ≡ Emptying o → Next at v s r s' → Empties T c o s r s'
  emptying at v s {s' = s'} {r = r} e = subst (λ (x : Stage). Next x v s r s' → Empties T c o s r s') (sym e) (emptying_by s (first_inside s.world o) refl)

  ended : (at : Stage) (v : Tree) (s : State) {s' : State} {r : Result Tree Failure} → at ≡ Recycled o → Next at v s r s' → (r ≡ Ok (integer (pos 0))) × (s' ≡ record s { notices = s.notices ++ Recycle o ∷ [] })
  ended at v s {s' = s'} {r = r} e = subst (λ (x : Stage). Next x v s r s' → (r ≡ Ok (integer (pos 0))) × (s' ≡ record s { notices = s.notices ++ Recycle o ∷ [] })) (sym e) (λ h. h)

  from_step : (at : Stage) (v : Tree) (s : State) {p : Progress} {t : State} (s' : State) (r : Result Tree Failure) → resumed c at v s ≡ (p, t) → Comes p t r s' → Next at v s r s'
  from_step at v s s' r f h = subst (λ (x : Progress × State). Comes x.0 x.1 r s') (sym f) h

  outcome_of : {p : Progress} {s s' : State} {r : Result Tree Failure} → Proceeds T c p s r s' → Comes p s r s'
  outcome_of is_done = (refl, refl)
  outcome_of (hook_stops d l a) = λ e. stopped (record { flow = _; last = _; all = d; leaves = l; gives = a })
  outcome_of {s' = s'} {r = r} (hook_then {stage = at} {s'' = u} {v = v} d l a f n) = λ e. went_on (record { flow = _; last = _; all = d; leaves = l; gives = a }) (emptying at v u e (from_step at v u s' r f (outcome_of n)))
  outcome_of {s = s} {s' = s'} {r = r} (at_once {stage = at} f n) =
      let rest = from_step at (integer (pos 0)) s s' r f (outcome_of n) in
      (λ e. emptying at (integer (pos 0)) s e rest, λ e. ended at (integer (pos 0)) s e rest)

  told_then : (s : State) {s' : State} {r : Result Tree Failure} → is_valid s.world o ≡ true → may_own s.world s.programmer o ≡ true → Told T c o s (codes "recycle") [] r s' → Recycles T c o s r s'
  told_then s here own (fails_there d) = law.recycle_fails here own d
  told_then s here own (then_empties d n) = law.told_and_emptied here own d n

  recycling_by : (s : State) {s' : State} {r : Result Tree Failure} → is_valid s.world o ≡ true → (own : Bool) → may_own s.world s.programmer o ≡ own →
      GoesOn T c s (if own then recycle_calls (calling c s) s.world o (codes "recycle") [] else (refuses Permission, s.world)) r s' → Recycles T c o s r s'
  recycling_by s here true own d = told_then s here own (telling s (codes "recycle") [] (outcome_of d))
  recycling_by s here false own is_done = law.not_owned here own

  recycling_comes : (s : State) {s' : State} {r : Result Tree Failure} → is_valid s.world o ≡ true → GoesOn T c s (recycling (calling c s) s.world o) r s' → Recycles T c o s r s'
  unfolding recycling
  recycling_comes s here d = recycling_by s here (may_own s.world s.programmer o) refl d

  pub what_recycles : {p : Progress} {s s' s'' : State} {r : Result Tree Failure} → Starts T c function.Recycle (object o ∷ []) s p s' → Proceeds T c p s' r s'' → Recycles T c o s r s''
  what_recycles {s = s} (refused q) is_done = refused_object (λ code. Recycles T c o s (Err (fails code)) s) (is_valid s.world o) (λ h. law.no_object h) q
  what_recycles {s = s} (starts q b u) d = recycling_comes s (valid_object (is_valid s.world o) q) (begun_call s b u d)

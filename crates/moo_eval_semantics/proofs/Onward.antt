-- Ticks never rise, and notices only grow.
use Rattle.std.proofs.Common.{◌≡◌, ℕ, ℤ, pos, List, Option, Result, refl}
use Rattle.moo_value.specs.Tree.{Tree, integer}
use Rattle.moo_syntax_ast.specs.Tree.{Expr, Items, Stmt, Arms, Handlers, Block}
use Rattle.moo_eval_control.specs.declared.leading.Span.{Span}
use Rattle.moo_eval_frame.specs.Outcome.{Raise, Stop, Failure, Flow}
use Rattle.moo_eval_slot.specs.Bindings.{Binding}
use Rattle.moo_eval_control.specs.Handling.{Guarded}
use Rattle.moo_eval_control.specs.Scatter.{LeftOut}
use Rattle.moo_eval_frame.specs.State.{Context, outside}
use Rattle.moo_builtin.specs.Telling.{Telling}
use Rattle.moo_eval_access.specs.State.{State}
use Rattle.moo_eval_access.specs.Entering.{Entered}
use Rattle.moo_eval_access.specs.Target.{Root, Step, Path}
use Rattle.moo_eval_semantics.specs.Later.{Later}
use Rattle.moo_eval_semantics.proofs.CallOnward.{kept, stays, later_twice, takes_tick, moves, later_call}
use Rattle.moo_eval_semantics.specs.Progressing.{Progress}
use Rattle.moo_eval_semantics.proofs.HookOnward.{later_start, later_stage}
use Rattle.moo_eval_semantics.specs.Operands.{begun, left}
use Rattle.moo_eval_semantics.specs.Meaning.{Evaluates, Computes, EvaluatesAll, Applies, Assigns, Locates, Finds, Enters, Steps, Stores, Puts, SetsDefaults, spent, begins, operands_end, places_end, applies, no_more, element_stops, element_then, splice_stops, splice_fails, splice_then, optional_fails, defaulted_fails, literal_is, variable_is, length_is, unary_is, binary_is, logic_decides, logic_goes_on, conditional_true, conditional_false, index_is, range_is, list_is, property_is, verb_fails, verb_runs, call_is, call_runs, Proceeds, is_done, hook_stops, hook_then, at_once, assign_is, catch_passes, catch_gives, catch_or_passes, catch_or_goes_on, target_ends, value_stops, assigns, root_ends, locates, parts_end, finds, inside, step_ends, enters, unread, spot_ends, steps_in, no_store, stores, puts_variable, property_unset, puts_property, scatter_fails, scatters, none_missing, default_stops, default_then, Prepares, Runs, Does, RunsAll, Selects, Turns, Loops, Visits, Counts, Handles, Takes, no_codes, codes_stop, codes_then, statement_spent, statement_begins, gives_zero, gives, evaluates, selects, list_stops, list_fails, visits, span_stops, span_fails, counts, loops, breaks_out, continues_on, unprepared, tries, finally_skipped, finally_runs, ends, leaves, proceeds, none_selected, else_runs, test_stops, arm_runs, arm_passed, turn_spent, turns, loop_stops, loop_ends, loop_left, loop_then, all_visited, visit_left, visit_then, all_counted, count_left, count_then, nothing_raised, ticks_out, handles, untaken, untold, takes}

-- a verb that was called comes back with the ticks and the notices that it left
pub returned : (e : Entered) {s s' s'' : State} → Later (begun e s) s' → left s s' ≡ s'' → Later s s''
returned e h l = moves l (record { ticks = h.ticks; added = h.added; notices = h.notices })

mutual
  pub later_result : (T : Telling) {c : Context} {e : Expr} {s s' : State} {o : Result Tree Stop} → Evaluates T c e s o s' → Later s s'
  later_result T (spent z) = stays
  later_result T (begins z d f) = later_twice takes_tick (later_computed T d)

  pub later_computed : (T : Telling) {c : Context} {e : Expr} {s s' : State} {o : Result Tree Failure} → Computes T c e s o s' → Later s s'
  later_computed T (operands_end d) = later_list T d
  later_computed T (places_end d g) = later_twice (later_list T d) (later_list T g)
  later_computed T (applies d g a) = later_twice (later_list T d) (later_twice (later_list T g) (later_applied T a))

  later_list : (T : Telling) {c : Context} {es : Items} {s s' : State} {o : Result (List Tree) Failure} → EvaluatesAll T c es s o s' → Later s s'
  later_list T no_more = stays
  later_list T (element_stops d) = later_result T d
  later_list T (element_then d a g) = later_twice (later_result T d) (later_list T a)
  later_list T (splice_stops d) = later_result T d
  later_list T (splice_fails d f) = later_result T d
  later_list T (splice_then d f a g) = later_twice (later_result T d) (later_list T a)
  later_list T optional_fails = stays
  later_list T defaulted_fails = stays

  later_applied : (T : Telling) {c : Context} {e : Expr} {vs ws : List Tree} {s s' : State} {o : Result Tree Failure} → Applies T c e vs ws s o s' → Later s s'
  later_applied T literal_is = stays
  later_applied T (variable_is f) = stays
  later_applied T (length_is f) = stays
  later_applied T (unary_is f) = stays
  later_applied T (binary_is f) = stays
  later_applied T (logic_decides f) = stays
  later_applied T (logic_goes_on f d g) = later_result T d
  later_applied T (conditional_true f d g) = later_result T d
  later_applied T (conditional_false f d g) = later_result T d
  later_applied T (index_is f) = stays
  later_applied T (range_is f) = stays
  later_applied T (list_is f) = stays
  later_applied T (property_is f) = stays
  later_applied T (verb_fails f) = stays
  later_applied T (verb_runs {e = e} f d l g) = returned e (later_block T d) l
  later_applied T (call_is {c = c} {s = s} {s' = s'} {name = name} {vs = vs} {r = r} g f) = later_call T (outside c) name vs s s' r f
  later_applied T (call_runs g b d) = later_twice (later_start T b) (later_progress T d)
  later_applied T (assign_is d) = later_assigned T d
  later_applied T (catch_passes d f g) = later_result T d
  later_applied T (catch_gives d f) = later_result T d
  later_applied T (catch_or_passes d f g) = later_result T d
  later_applied T (catch_or_goes_on d f e g) = later_twice (later_result T d) (later_result T e)

  pub later_progress : (T : Telling) {c : Context} {x : Progress} {s s' : State} {o : Result Tree Failure} → Proceeds T c x s o s' → Later s s'
  later_progress T is_done = stays
  later_progress T (hook_stops {e = e} d l g) = returned e (later_block T d) l
  later_progress T (hook_then {c = c} {e = e} {stage = at} {v = v} d l g f a) = later_twice (returned e (later_block T d) l) (later_twice (later_stage c at v f) (later_progress T a))
  later_progress T (at_once {c = c} {stage = at} f a) = later_twice (later_stage c at (integer (pos 0)) f) (later_progress T a)

  later_assigned : (T : Telling) {c : Context} {t e : Expr} {s s' : State} {o : Result Tree Failure} → Assigns T c t e s o s' → Later s s'
  later_assigned T (target_ends d) = later_located T d
  later_assigned T (value_stops d g) = later_twice (later_located T d) (later_result T g)
  later_assigned T (assigns d g a f) = later_twice (later_located T d) (later_twice (later_result T g) (later_stored T a))

  later_located : (T : Telling) {c : Context} {t : Expr} {s s' : State} {o : Result Path Failure} → Locates T c t s o s' → Later s s'
  later_located T (root_ends d) = later_found T d
  later_located T (locates d g) = later_twice (later_found T d) (later_entered T g)

  later_found : (T : Telling) {c : Context} {t : Expr} {s s' : State} {o : Result Root Failure} → Finds T c t s o s' → Later s s'
  later_found T (parts_end d) = later_list T d
  later_found T (finds d f) = later_list T d

  later_entered : (T : Telling) {c : Context} {root : Root} {steps : List Step} {spots : List Items} {s s' : State} {o : Result Path Failure} → Enters T c root steps spots s o s' → Later s s'
  later_entered T inside = stays
  later_entered T (step_ends d) = later_step T d
  later_entered T (enters d g) = later_twice (later_step T d) (later_entered T g)

  later_step : (T : Telling) {c : Context} {root : Root} {steps : List Step} {spot : Items} {s s' : State} {o : Result Step Failure} → Steps T c root steps spot s o s' → Later s s'
  later_step T (unread f) = stays
  later_step T (spot_ends f d) = later_list T d
  later_step T (steps_in f d) = later_list T d

  later_stored : (T : Telling) {c : Context} {root : Root} {steps : List Step} {v : Tree} {s s' : State} {o : Result (Unit {0}) Failure} → Stores T c root steps v s o s' → Later s s'
  later_stored T (no_store f) = stays
  later_stored T (stores f d) = later_put T d

  later_put : (T : Telling) {c : Context} {root : Root} {v : Tree} {s s' : State} {o : Result (Unit {0}) Failure} → Puts T c root v s o s' → Later s s'
  later_put T (puts_variable e) = moves e (kept refl refl)
  later_put T (property_unset f) = stays
  later_put T (puts_property f e) = moves e (kept refl refl)
  later_put T (scatter_fails f) = stays
  later_put T (scatters f e d) = later_twice (moves e (kept refl refl)) (later_defaults T d)

  later_defaults : (T : Telling) {c : Context} {ds : List LeftOut} {s s' : State} {o : Result (Unit {0}) Failure} → SetsDefaults T c ds s o s' → Later s s'
  later_defaults T none_missing = stays
  later_defaults T (default_stops d) = later_result T d
  later_defaults T (default_then d e g) = later_twice (later_result T d) (later_twice (moves e (kept refl refl)) (later_defaults T g))

  later_prepared : (T : Telling) {c : Context} {hs : Handlers} {s s' : State} {o : Result (List Guarded) Stop} → Prepares T c hs s o s' → Later s s'
  later_prepared T no_codes = stays
  later_prepared T (codes_stop d f) = later_list T d
  later_prepared T (codes_then d f a g) = later_twice (later_list T d) (later_prepared T a)

  later_run : (T : Telling) {c : Context} {t : Stmt} {s s' : State} {o : Result Flow Stop} → Runs T c t s o s' → Later s s'
  later_run T (statement_spent z) = stays
  later_run T (statement_begins z d) = later_twice takes_tick (later_done T d)

  pub later_done : (T : Telling) {c : Context} {t : Stmt} {s s' : State} {o : Result Flow Stop} → Does T c t s o s' → Later s s'
  later_done T gives_zero = stays
  later_done T (gives d g) = later_result T d
  later_done T (evaluates d g) = later_result T d
  later_done T (selects d) = later_selected T d
  later_done T (list_stops d) = later_result T d
  later_done T (list_fails d f g) = later_result T d
  later_done T (visits d f a) = later_twice (later_result T d) (later_visited T a)
  later_done T (span_stops d) = later_list T d
  later_done T (span_fails d f g) = later_list T d
  later_done T (counts d f a) = later_twice (later_list T d) (later_counted T a)
  later_done T (loops d) = later_looped T d
  later_done T breaks_out = stays
  later_done T continues_on = stays
  later_done T (unprepared d) = later_prepared T d
  later_done T (tries d a g) = later_twice (later_prepared T d) (later_twice (later_block T a) (later_handled T g))
  later_done T (finally_skipped d f) = later_block T d
  later_done T (finally_runs d f a g) = later_twice (later_block T d) (later_block T a)

  pub later_block : (T : Telling) {c : Context} {b : Block} {s s' : State} {o : Result Flow Stop} → RunsAll T c b s o s' → Later s s'
  later_block T ends = stays
  later_block T (leaves d f) = later_run T d
  later_block T (proceeds d a) = later_twice (later_run T d) (later_block T a)

  later_selected : (T : Telling) {c : Context} {arms : Arms} {s s' : State} {o : Result Flow Stop} → Selects T c arms s o s' → Later s s'
  later_selected T none_selected = stays
  later_selected T (else_runs d) = later_block T d
  later_selected T (test_stops d) = later_result T d
  later_selected T (arm_runs d f a) = later_twice (later_result T d) (later_block T a)
  later_selected T (arm_passed d f a) = later_twice (later_result T d) (later_selected T a)

  later_turned : (T : Telling) {c : Context} {own : Option (List ℕ)} {bindings : List Binding} {b : Block} {s s' : State} {o : Option (Result Flow Stop)} → Turns T c own bindings b s o s' → Later s s'
  later_turned T (turn_spent z) = stays
  later_turned T (turns z e a g) = later_twice takes_tick (later_twice (moves e (kept refl refl)) (later_block T a))

  later_looped : (T : Telling) {c : Context} {own : Option (List ℕ)} {e : Expr} {b : Block} {s s' : State} {o : Result Flow Stop} → Loops T c own e b s o s' → Later s s'
  later_looped T (loop_stops d) = later_result T d
  later_looped T (loop_ends d f) = later_result T d
  later_looped T (loop_left d f a) = later_twice (later_result T d) (later_turned T a)
  later_looped T (loop_then d f a m) = later_twice (later_result T d) (later_twice (later_turned T a) (later_looped T m))

  later_visited : (T : Telling) {c : Context} {x : List ℕ} {vs : List Tree} {b : Block} {s s' : State} {o : Result Flow Stop} → Visits T c x vs b s o s' → Later s s'
  later_visited T all_visited = stays
  later_visited T (visit_left a) = later_turned T a
  later_visited T (visit_then a m) = later_twice (later_turned T a) (later_visited T m)

  later_counted : (T : Telling) {c : Context} {x : List ℕ} {span : Span} {n : ℤ} {b : Block} {s s' : State} {o : Result Flow Stop} → Counts T c x span n b s o s' → Later s s'
  later_counted T (all_counted f) = stays
  later_counted T (count_left f a) = later_turned T a
  later_counted T (count_then f a m) = later_twice (later_turned T a) (later_counted T m)

  later_handled : (T : Telling) {c : Context} {all : List Guarded} {o : Result Flow Stop} {s s' : State} {r : Result Flow Stop} → Handles T c all o s r s' → Later s s'
  later_handled T nothing_raised = stays
  later_handled T ticks_out = stays
  later_handled T (handles f d) = later_taken T d

  later_taken : (T : Telling) {c : Context} {g : Option Guarded} {raise : Raise} {s s' : State} {o : Result Flow Stop} → Takes T c g raise s o s' → Later s s'
  later_taken T untaken = stays
  later_taken T (untold f) = stays
  later_taken T (takes f e d) = later_twice (moves e (kept refl refl)) (later_block T d)

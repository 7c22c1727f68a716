-- An outcome of evaluation stays possible if more faults may be reported for texts.
use Rattle.std.proofs.Common.{ℕ, ℤ, List, Option, Result}
use Rattle.moo_value.specs.Tree.{Tree}
use Rattle.moo_syntax_ast.specs.Tree.{Expr, Items, Stmt, Arms, Handlers, Block}
use Rattle.moo_eval_control.specs.declared.leading.Span.{Span}
use Rattle.moo_eval_frame.specs.Outcome.{Raise, Stop, Failure, Flow}
use Rattle.moo_eval_slot.specs.Bindings.{Binding}
use Rattle.moo_eval_control.specs.Handling.{Guarded}
use Rattle.moo_eval_control.specs.Scatter.{LeftOut}
use Rattle.moo_eval_frame.specs.State.{Context, outside}
use Rattle.moo_builtin.specs.Telling.{Telling}
use Rattle.moo_eval_access.specs.State.{State}
use Rattle.moo_eval_access.specs.Target.{Root, Step, Path}
use Rattle.moo_eval_semantics.proofs.CallWider.{Wider, wider_call}
use Rattle.moo_eval_semantics.specs.Progressing.{Progress}
use Rattle.moo_eval_semantics.proofs.HookWider.{wider_start}
use Rattle.moo_eval_semantics.specs.Meaning.{Evaluates, Computes, EvaluatesAll, Applies, Assigns, Locates, Finds, Enters, Steps, Stores, Puts, SetsDefaults, spent, begins, operands_end, places_end, applies, no_more, element_stops, element_then, splice_stops, splice_fails, splice_then, optional_fails, defaulted_fails, literal_is, variable_is, length_is, unary_is, binary_is, logic_decides, logic_goes_on, conditional_true, conditional_false, index_is, range_is, list_is, property_is, verb_fails, verb_runs, call_is, call_runs, Proceeds, is_done, hook_stops, hook_then, at_once, assign_is, catch_passes, catch_gives, catch_or_passes, catch_or_goes_on, target_ends, value_stops, assigns, root_ends, locates, parts_end, finds, inside, step_ends, enters, unread, spot_ends, steps_in, no_store, stores, puts_variable, property_unset, puts_property, scatter_fails, scatters, none_missing, default_stops, default_then, Prepares, Runs, Does, RunsAll, Selects, Turns, Loops, Visits, Counts, Handles, Takes, no_codes, codes_stop, codes_then, statement_spent, statement_begins, gives_zero, gives, evaluates, selects, list_stops, list_fails, visits, span_stops, span_fails, counts, loops, breaks_out, continues_on, unprepared, tries, finally_skipped, finally_runs, ends, leaves, proceeds, none_selected, else_runs, test_stops, arm_runs, arm_passed, turn_spent, turns, loop_stops, loop_ends, loop_left, loop_then, all_visited, visit_left, visit_then, all_counted, count_left, count_then, nothing_raised, ticks_out, handles, untaken, untold, takes}

mutual
  pub wider_result : {T U : Telling} → Wider T U → {c : Context} {e : Expr} {s s' : State} {o : Result Tree Stop} → Evaluates T c e s o s' → Evaluates U c e s o s'
  wider_result w (spent z) = spent z
  wider_result w (begins z d f) = begins z (wider_computed w d) f

  wider_computed : {T U : Telling} → Wider T U → {c : Context} {e : Expr} {s s' : State} {o : Result Tree Failure} → Computes T c e s o s' → Computes U c e s o s'
  wider_computed w (operands_end d) = operands_end (wider_list w d)
  wider_computed w (places_end d g) = places_end (wider_list w d) (wider_list w g)
  wider_computed w (applies d g a) = applies (wider_list w d) (wider_list w g) (wider_applied w a)

  wider_list : {T U : Telling} → Wider T U → {c : Context} {es : Items} {s s' : State} {o : Result (List Tree) Failure} → EvaluatesAll T c es s o s' → EvaluatesAll U c es s o s'
  wider_list w no_more = no_more
  wider_list w (element_stops d) = element_stops (wider_result w d)
  wider_list w (element_then d a g) = element_then (wider_result w d) (wider_list w a) g
  wider_list w (splice_stops d) = splice_stops (wider_result w d)
  wider_list w (splice_fails d f) = splice_fails (wider_result w d) f
  wider_list w (splice_then d f a g) = splice_then (wider_result w d) f (wider_list w a) g
  wider_list w optional_fails = optional_fails
  wider_list w defaulted_fails = defaulted_fails

  wider_applied : {T U : Telling} → Wider T U → {c : Context} {e : Expr} {vs ws : List Tree} {s s' : State} {o : Result Tree Failure} → Applies T c e vs ws s o s' → Applies U c e vs ws s o s'
  wider_applied w literal_is = literal_is
  wider_applied w (variable_is f) = variable_is f
  wider_applied w (length_is f) = length_is f
  wider_applied w (unary_is f) = unary_is f
  wider_applied w (binary_is f) = binary_is f
  wider_applied w (logic_decides f) = logic_decides f
  wider_applied w (logic_goes_on f d g) = logic_goes_on f (wider_result w d) g
  wider_applied w (conditional_true f d g) = conditional_true f (wider_result w d) g
  wider_applied w (conditional_false f d g) = conditional_false f (wider_result w d) g
  wider_applied w (index_is f) = index_is f
  wider_applied w (range_is f) = range_is f
  wider_applied w (list_is f) = list_is f
  wider_applied w (property_is f) = property_is f
  wider_applied w (verb_fails f) = verb_fails f
  wider_applied w (verb_runs {e = e} f d l g) = verb_runs {e = e} f (wider_block w d) l g
  wider_applied w (call_is {c = c} {s = s} {s' = s'} {name = name} {vs = vs} {r = r} g f) = call_is g (wider_call w (outside c) name vs s s' r f)
  wider_applied w (call_runs g b d) = call_runs g (wider_start w b) (wider_progress w d)
  wider_applied w (assign_is d) = assign_is (wider_assigned w d)
  wider_applied w (catch_passes d f g) = catch_passes (wider_result w d) f g
  wider_applied w (catch_gives d f) = catch_gives (wider_result w d) f
  wider_applied w (catch_or_passes d f g) = catch_or_passes (wider_result w d) f g
  wider_applied w (catch_or_goes_on d f e g) = catch_or_goes_on (wider_result w d) f (wider_result w e) g

  wider_progress : {T U : Telling} → Wider T U → {c : Context} {x : Progress} {s s' : State} {o : Result Tree Failure} → Proceeds T c x s o s' → Proceeds U c x s o s'
  wider_progress w is_done = is_done
  wider_progress w (hook_stops {e = e} d l g) = hook_stops {e = e} (wider_block w d) l g
  wider_progress w (hook_then {e = e} d l g f a) = hook_then {e = e} (wider_block w d) l g f (wider_progress w a)
  wider_progress w (at_once f a) = at_once f (wider_progress w a)

  wider_assigned : {T U : Telling} → Wider T U → {c : Context} {t e : Expr} {s s' : State} {o : Result Tree Failure} → Assigns T c t e s o s' → Assigns U c t e s o s'
  wider_assigned w (target_ends d) = target_ends (wider_located w d)
  wider_assigned w (value_stops d g) = value_stops (wider_located w d) (wider_result w g)
  wider_assigned w (assigns d g a f) = assigns (wider_located w d) (wider_result w g) (wider_stored w a) f

  wider_located : {T U : Telling} → Wider T U → {c : Context} {t : Expr} {s s' : State} {o : Result Path Failure} → Locates T c t s o s' → Locates U c t s o s'
  wider_located w (root_ends d) = root_ends (wider_found w d)
  wider_located w (locates d g) = locates (wider_found w d) (wider_entered w g)

  wider_found : {T U : Telling} → Wider T U → {c : Context} {t : Expr} {s s' : State} {o : Result Root Failure} → Finds T c t s o s' → Finds U c t s o s'
  wider_found w (parts_end d) = parts_end (wider_list w d)
  wider_found w (finds d f) = finds (wider_list w d) f

  wider_entered : {T U : Telling} → Wider T U → {c : Context} {root : Root} {steps : List Step} {spots : List Items} {s s' : State} {o : Result Path Failure} → Enters T c root steps spots s o s' → Enters U c root steps spots s o s'
  wider_entered w inside = inside
  wider_entered w (step_ends d) = step_ends (wider_step w d)
  wider_entered w (enters d g) = enters (wider_step w d) (wider_entered w g)

  wider_step : {T U : Telling} → Wider T U → {c : Context} {root : Root} {steps : List Step} {spot : Items} {s s' : State} {o : Result Step Failure} → Steps T c root steps spot s o s' → Steps U c root steps spot s o s'
  wider_step w (unread f) = unread f
  wider_step w (spot_ends f d) = spot_ends f (wider_list w d)
  wider_step w (steps_in f d) = steps_in f (wider_list w d)

  wider_stored : {T U : Telling} → Wider T U → {c : Context} {root : Root} {steps : List Step} {v : Tree} {s s' : State} {o : Result (Unit {0}) Failure} → Stores T c root steps v s o s' → Stores U c root steps v s o s'
  wider_stored w (no_store f) = no_store f
  wider_stored w (stores f d) = stores f (wider_put w d)

  wider_put : {T U : Telling} → Wider T U → {c : Context} {root : Root} {v : Tree} {s s' : State} {o : Result (Unit {0}) Failure} → Puts T c root v s o s' → Puts U c root v s o s'
  wider_put w (puts_variable e) = puts_variable e
  wider_put w (property_unset f) = property_unset f
  wider_put w (puts_property f e) = puts_property f e
  wider_put w (scatter_fails f) = scatter_fails f
  wider_put w (scatters f e d) = scatters f e (wider_defaults w d)

  wider_defaults : {T U : Telling} → Wider T U → {c : Context} {ds : List LeftOut} {s s' : State} {o : Result (Unit {0}) Failure} → SetsDefaults T c ds s o s' → SetsDefaults U c ds s o s'
  wider_defaults w none_missing = none_missing
  wider_defaults w (default_stops d) = default_stops (wider_result w d)
  wider_defaults w (default_then d e g) = default_then (wider_result w d) e (wider_defaults w g)

  wider_prepared : {T U : Telling} → Wider T U → {c : Context} {hs : Handlers} {s s' : State} {o : Result (List Guarded) Stop} → Prepares T c hs s o s' → Prepares U c hs s o s'
  wider_prepared w no_codes = no_codes
  wider_prepared w (codes_stop d f) = codes_stop (wider_list w d) f
  wider_prepared w (codes_then d f a g) = codes_then (wider_list w d) f (wider_prepared w a) g

  wider_run : {T U : Telling} → Wider T U → {c : Context} {t : Stmt} {s s' : State} {o : Result Flow Stop} → Runs T c t s o s' → Runs U c t s o s'
  wider_run w (statement_spent z) = statement_spent z
  wider_run w (statement_begins z d) = statement_begins z (wider_done w d)

  wider_done : {T U : Telling} → Wider T U → {c : Context} {t : Stmt} {s s' : State} {o : Result Flow Stop} → Does T c t s o s' → Does U c t s o s'
  wider_done w gives_zero = gives_zero
  wider_done w (gives d g) = gives (wider_result w d) g
  wider_done w (evaluates d g) = evaluates (wider_result w d) g
  wider_done w (selects d) = selects (wider_selected w d)
  wider_done w (list_stops d) = list_stops (wider_result w d)
  wider_done w (list_fails d f g) = list_fails (wider_result w d) f g
  wider_done w (visits d f a) = visits (wider_result w d) f (wider_visited w a)
  wider_done w (span_stops d) = span_stops (wider_list w d)
  wider_done w (span_fails d f g) = span_fails (wider_list w d) f g
  wider_done w (counts d f a) = counts (wider_list w d) f (wider_counted w a)
  wider_done w (loops d) = loops (wider_looped w d)
  wider_done w breaks_out = breaks_out
  wider_done w continues_on = continues_on
  wider_done w (unprepared d) = unprepared (wider_prepared w d)
  wider_done w (tries d a g) = tries (wider_prepared w d) (wider_block w a) (wider_handled w g)
  wider_done w (finally_skipped d f) = finally_skipped (wider_block w d) f
  wider_done w (finally_runs d f a g) = finally_runs (wider_block w d) f (wider_block w a) g

  pub wider_block : {T U : Telling} → Wider T U → {c : Context} {b : Block} {s s' : State} {o : Result Flow Stop} → RunsAll T c b s o s' → RunsAll U c b s o s'
  wider_block w ends = ends
  wider_block w (leaves d f) = leaves (wider_run w d) f
  wider_block w (proceeds d a) = proceeds (wider_run w d) (wider_block w a)

  wider_selected : {T U : Telling} → Wider T U → {c : Context} {arms : Arms} {s s' : State} {o : Result Flow Stop} → Selects T c arms s o s' → Selects U c arms s o s'
  wider_selected w none_selected = none_selected
  wider_selected w (else_runs d) = else_runs (wider_block w d)
  wider_selected w (test_stops d) = test_stops (wider_result w d)
  wider_selected w (arm_runs d f a) = arm_runs (wider_result w d) f (wider_block w a)
  wider_selected w (arm_passed d f a) = arm_passed (wider_result w d) f (wider_selected w a)

  wider_turned : {T U : Telling} → Wider T U → {c : Context} {own : Option (List ℕ)} {bindings : List Binding} {b : Block} {s s' : State} {o : Option (Result Flow Stop)} → Turns T c own bindings b s o s' → Turns U c own bindings b s o s'
  wider_turned w (turn_spent z) = turn_spent z
  wider_turned w (turns z e a g) = turns z e (wider_block w a) g

  wider_looped : {T U : Telling} → Wider T U → {c : Context} {own : Option (List ℕ)} {e : Expr} {b : Block} {s s' : State} {o : Result Flow Stop} → Loops T c own e b s o s' → Loops U c own e b s o s'
  wider_looped w (loop_stops d) = loop_stops (wider_result w d)
  wider_looped w (loop_ends d f) = loop_ends (wider_result w d) f
  wider_looped w (loop_left d f a) = loop_left (wider_result w d) f (wider_turned w a)
  wider_looped w (loop_then d f a m) = loop_then (wider_result w d) f (wider_turned w a) (wider_looped w m)

  wider_visited : {T U : Telling} → Wider T U → {c : Context} {x : List ℕ} {vs : List Tree} {b : Block} {s s' : State} {o : Result Flow Stop} → Visits T c x vs b s o s' → Visits U c x vs b s o s'
  wider_visited w all_visited = all_visited
  wider_visited w (visit_left a) = visit_left (wider_turned w a)
  wider_visited w (visit_then a m) = visit_then (wider_turned w a) (wider_visited w m)

  wider_counted : {T U : Telling} → Wider T U → {c : Context} {x : List ℕ} {span : Span} {n : ℤ} {b : Block} {s s' : State} {o : Result Flow Stop} → Counts T c x span n b s o s' → Counts U c x span n b s o s'
  wider_counted w (all_counted f) = all_counted f
  wider_counted w (count_left f a) = count_left f (wider_turned w a)
  wider_counted w (count_then f a m) = count_then f (wider_turned w a) (wider_counted w m)

  wider_handled : {T U : Telling} → Wider T U → {c : Context} {all : List Guarded} {o : Result Flow Stop} {s s' : State} {r : Result Flow Stop} → Handles T c all o s r s' → Handles U c all o s r s'
  wider_handled w nothing_raised = nothing_raised
  wider_handled w ticks_out = ticks_out
  wider_handled w (handles f d) = handles f (wider_taken w d)

  wider_taken : {T U : Telling} → Wider T U → {c : Context} {g : Option Guarded} {raise : Raise} {s s' : State} {o : Result Flow Stop} → Takes T c g raise s o s' → Takes U c g raise s o s'
  wider_taken w untaken = untaken
  wider_taken w (untold f) = untold f
  wider_taken w (takes f e d) = takes f e (wider_block w d)

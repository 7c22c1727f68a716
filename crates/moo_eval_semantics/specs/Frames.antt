-- Which verbs run while something is evaluated, and how many frames there are then.
use Rattle.std.specs.Prelude.{◌≤◌, ℕ, ℤ, List, [], ◌∷◌, ◌++◌, Option, Result}
use Rattle.moo_value.specs.Tree.{Tree}
use Rattle.moo_syntax_ast.specs.Tree.{Expr, Items, Stmt, Arms, Handlers, Block}
use Rattle.moo_eval_control.specs.declared.leading.Span.{Span}
use Rattle.moo_eval_frame.specs.Outcome.{Raise, Stop, Failure, Flow}
use Rattle.moo_eval_slot.specs.Bindings.{Binding}
use Rattle.moo_eval_control.specs.Handling.{Guarded}
use Rattle.moo_eval_control.specs.Scatter.{LeftOut}
use Rattle.moo_eval_frame.specs.State.{Context}
use Rattle.moo_eval_access.specs.State.{State}
use Rattle.moo_eval_access.specs.Entering.{Entered, frames, most_frames}
use Rattle.moo_eval_access.specs.Target.{Root, Step, Path}
use Rattle.moo_builtin.specs.Telling.{Telling}
use Rattle.moo_eval_semantics.specs.Progressing.{Progress}
use Rattle.moo_eval_semantics.specs.Meaning.{Evaluates, Computes, EvaluatesAll, Applies, Assigns, Locates, Finds, Enters, Steps, Stores, Puts, SetsDefaults, begins, operands_end, places_end, applies, element_stops, element_then, splice_stops, splice_fails, splice_then, logic_goes_on, conditional_true, conditional_false, verb_runs, call_runs, Proceeds, hook_stops, hook_then, at_once, assign_is, catch_passes, catch_gives, catch_or_passes, catch_or_goes_on, target_ends, value_stops, assigns, root_ends, locates, parts_end, finds, step_ends, enters, spot_ends, steps_in, stores, scatters, default_stops, default_then, Prepares, Runs, Does, RunsAll, Selects, Turns, Loops, Visits, Counts, Handles, Takes, codes_stop, codes_then, statement_begins, gives, evaluates, selects, list_stops, list_fails, visits, span_stops, span_fails, counts, loops, unprepared, tries, finally_skipped, finally_runs, leaves, proceeds, else_runs, test_stops, arm_runs, arm_passed, turns, loop_stops, loop_ends, loop_left, loop_then, visit_left, visit_then, count_left, count_then, handles, takes}

-- there is a frame for it: at most 50 exist while it runs, its own among them
abbrev pub HasRoom : Entered → Type 0
HasRoom e = frames e.context.callers ≤ most_frames

-- The verbs that run on the way to a result, in order, each before those that it calls. A program that `eval` runs is
-- among them. Verbs are entered by calls of verbs and by the functions that call verbs. Otherwise those of the parts
-- run. A rule that is not named has no part in which a verb could run.
abbrev mutual
  pub verbs_of_expression : {T : Telling} {c : Context} {e : Expr} {s s' : State} {o : Result Tree Stop} → Evaluates T c e s o s' → List Entered
  verbs_of_expression (begins z d f) = verbs_of_parts d
  verbs_of_expression _ = []

  pub verbs_of_parts : {T : Telling} {c : Context} {e : Expr} {s s' : State} {o : Result Tree Failure} → Computes T c e s o s' → List Entered
  verbs_of_parts (operands_end d) = verbs_of_items d
  verbs_of_parts (places_end d g) = verbs_of_items d ++ verbs_of_items g
  verbs_of_parts (applies d g a) = verbs_of_items d ++ verbs_of_items g ++ verbs_of_application a

  pub verbs_of_items : {T : Telling} {c : Context} {es : Items} {s s' : State} {o : Result (List Tree) Failure} → EvaluatesAll T c es s o s' → List Entered
  verbs_of_items (element_stops d) = verbs_of_expression d
  verbs_of_items (element_then d a g) = verbs_of_expression d ++ verbs_of_items a
  verbs_of_items (splice_stops d) = verbs_of_expression d
  verbs_of_items (splice_fails d f) = verbs_of_expression d
  verbs_of_items (splice_then d f a g) = verbs_of_expression d ++ verbs_of_items a
  verbs_of_items _ = []

  pub verbs_of_application : {T : Telling} {c : Context} {e : Expr} {vs ws : List Tree} {s s' : State} {o : Result Tree Failure} → Applies T c e vs ws s o s' → List Entered
  verbs_of_application (logic_goes_on f d g) = verbs_of_expression d
  verbs_of_application (conditional_true f d g) = verbs_of_expression d
  verbs_of_application (conditional_false f d g) = verbs_of_expression d
  verbs_of_application (verb_runs {e = e} f d l g) = e ∷ verbs_of_block d
  verbs_of_application (call_runs g b d) = verbs_of_function d
  verbs_of_application (assign_is d) = verbs_of_assignment d
  verbs_of_application (catch_passes d f g) = verbs_of_expression d
  verbs_of_application (catch_gives d f) = verbs_of_expression d
  verbs_of_application (catch_or_passes d f g) = verbs_of_expression d
  verbs_of_application (catch_or_goes_on d f e g) = verbs_of_expression d ++ verbs_of_expression e
  verbs_of_application _ = []

  pub verbs_of_function : {T : Telling} {c : Context} {x : Progress} {s s' : State} {o : Result Tree Failure} → Proceeds T c x s o s' → List Entered
  verbs_of_function (hook_stops {e = e} d l g) = e ∷ verbs_of_block d
  verbs_of_function (hook_then {e = e} d l g f a) = e ∷ verbs_of_block d ++ verbs_of_function a
  verbs_of_function (at_once f a) = verbs_of_function a
  verbs_of_function _ = []

  pub verbs_of_assignment : {T : Telling} {c : Context} {t e : Expr} {s s' : State} {o : Result Tree Failure} → Assigns T c t e s o s' → List Entered
  verbs_of_assignment (target_ends d) = verbs_of_target d
  verbs_of_assignment (value_stops d g) = verbs_of_target d ++ verbs_of_expression g
  verbs_of_assignment (assigns d g a f) = verbs_of_target d ++ verbs_of_expression g ++ verbs_of_store a

  pub verbs_of_target : {T : Telling} {c : Context} {t : Expr} {s s' : State} {o : Result Path Failure} → Locates T c t s o s' → List Entered
  verbs_of_target (root_ends d) = verbs_of_root d
  verbs_of_target (locates d g) = verbs_of_root d ++ verbs_of_steps g

  pub verbs_of_root : {T : Telling} {c : Context} {t : Expr} {s s' : State} {o : Result Root Failure} → Finds T c t s o s' → List Entered
  verbs_of_root (parts_end d) = verbs_of_items d
  verbs_of_root (finds d f) = verbs_of_items d

  pub verbs_of_steps : {T : Telling} {c : Context} {root : Root} {steps : List Step} {spots : List Items} {s s' : State} {o : Result Path Failure} → Enters T c root steps spots s o s' → List Entered
  verbs_of_steps (step_ends d) = verbs_of_step d
  verbs_of_steps (enters d g) = verbs_of_step d ++ verbs_of_steps g
  verbs_of_steps _ = []

  pub verbs_of_step : {T : Telling} {c : Context} {root : Root} {steps : List Step} {spot : Items} {s s' : State} {o : Result Step Failure} → Steps T c root steps spot s o s' → List Entered
  verbs_of_step (spot_ends f d) = verbs_of_items d
  verbs_of_step (steps_in f d) = verbs_of_items d
  verbs_of_step _ = []

  pub verbs_of_store : {T : Telling} {c : Context} {root : Root} {steps : List Step} {v : Tree} {s s' : State} {o : Result (Unit {0}) Failure} → Stores T c root steps v s o s' → List Entered
  verbs_of_store (stores f d) = verbs_of_put d
  verbs_of_store _ = []

  pub verbs_of_put : {T : Telling} {c : Context} {root : Root} {v : Tree} {s s' : State} {o : Result (Unit {0}) Failure} → Puts T c root v s o s' → List Entered
  verbs_of_put (scatters f e d) = verbs_of_defaults d
  verbs_of_put _ = []

  pub verbs_of_defaults : {T : Telling} {c : Context} {ds : List LeftOut} {s s' : State} {o : Result (Unit {0}) Failure} → SetsDefaults T c ds s o s' → List Entered
  verbs_of_defaults (default_stops d) = verbs_of_expression d
  verbs_of_defaults (default_then d e g) = verbs_of_expression d ++ verbs_of_defaults g
  verbs_of_defaults _ = []

  pub verbs_of_codes : {T : Telling} {c : Context} {hs : Handlers} {s s' : State} {o : Result (List Guarded) Stop} → Prepares T c hs s o s' → List Entered
  verbs_of_codes (codes_stop d f) = verbs_of_items d
  verbs_of_codes (codes_then d f a g) = verbs_of_items d ++ verbs_of_codes a
  verbs_of_codes _ = []

  pub verbs_of_statement : {T : Telling} {c : Context} {t : Stmt} {s s' : State} {o : Result Flow Stop} → Runs T c t s o s' → List Entered
  verbs_of_statement (statement_begins z d) = verbs_of_deed d
  verbs_of_statement _ = []

  pub verbs_of_deed : {T : Telling} {c : Context} {t : Stmt} {s s' : State} {o : Result Flow Stop} → Does T c t s o s' → List Entered
  verbs_of_deed (gives d g) = verbs_of_expression d
  verbs_of_deed (evaluates d g) = verbs_of_expression d
  verbs_of_deed (selects d) = verbs_of_arms d
  verbs_of_deed (list_stops d) = verbs_of_expression d
  verbs_of_deed (list_fails d f g) = verbs_of_expression d
  verbs_of_deed (visits d f a) = verbs_of_expression d ++ verbs_of_visits a
  verbs_of_deed (span_stops d) = verbs_of_items d
  verbs_of_deed (span_fails d f g) = verbs_of_items d
  verbs_of_deed (counts d f a) = verbs_of_items d ++ verbs_of_count a
  verbs_of_deed (loops d) = verbs_of_loop d
  verbs_of_deed (unprepared d) = verbs_of_codes d
  verbs_of_deed (tries d a g) = verbs_of_codes d ++ verbs_of_block a ++ verbs_of_handling g
  verbs_of_deed (finally_skipped d f) = verbs_of_block d
  verbs_of_deed (finally_runs d f a g) = verbs_of_block d ++ verbs_of_block a
  verbs_of_deed _ = []

  pub verbs_of_block : {T : Telling} {c : Context} {b : Block} {s s' : State} {o : Result Flow Stop} → RunsAll T c b s o s' → List Entered
  verbs_of_block (leaves d f) = verbs_of_statement d
  verbs_of_block (proceeds d a) = verbs_of_statement d ++ verbs_of_block a
  verbs_of_block _ = []

  pub verbs_of_arms : {T : Telling} {c : Context} {arms : Arms} {s s' : State} {o : Result Flow Stop} → Selects T c arms s o s' → List Entered
  verbs_of_arms (else_runs d) = verbs_of_block d
  verbs_of_arms (test_stops d) = verbs_of_expression d
  verbs_of_arms (arm_runs d f a) = verbs_of_expression d ++ verbs_of_block a
  verbs_of_arms (arm_passed d f a) = verbs_of_expression d ++ verbs_of_arms a
  verbs_of_arms _ = []

  pub verbs_of_turn : {T : Telling} {c : Context} {own : Option (List ℕ)} {bindings : List Binding} {b : Block} {s s' : State} {o : Option (Result Flow Stop)} → Turns T c own bindings b s o s' → List Entered
  verbs_of_turn (turns z e a g) = verbs_of_block a
  verbs_of_turn _ = []

  pub verbs_of_loop : {T : Telling} {c : Context} {own : Option (List ℕ)} {e : Expr} {b : Block} {s s' : State} {o : Result Flow Stop} → Loops T c own e b s o s' → List Entered
  verbs_of_loop (loop_stops d) = verbs_of_expression d
  verbs_of_loop (loop_ends d f) = verbs_of_expression d
  verbs_of_loop (loop_left d f a) = verbs_of_expression d ++ verbs_of_turn a
  verbs_of_loop (loop_then d f a m) = verbs_of_expression d ++ verbs_of_turn a ++ verbs_of_loop m

  pub verbs_of_visits : {T : Telling} {c : Context} {x : List ℕ} {vs : List Tree} {b : Block} {s s' : State} {o : Result Flow Stop} → Visits T c x vs b s o s' → List Entered
  verbs_of_visits (visit_left a) = verbs_of_turn a
  verbs_of_visits (visit_then a m) = verbs_of_turn a ++ verbs_of_visits m
  verbs_of_visits _ = []

  pub verbs_of_count : {T : Telling} {c : Context} {x : List ℕ} {span : Span} {n : ℤ} {b : Block} {s s' : State} {o : Result Flow Stop} → Counts T c x span n b s o s' → List Entered
  verbs_of_count (count_left f a) = verbs_of_turn a
  verbs_of_count (count_then f a m) = verbs_of_turn a ++ verbs_of_count m
  verbs_of_count _ = []

  pub verbs_of_handling : {T : Telling} {c : Context} {all : List Guarded} {o : Result Flow Stop} {s s' : State} {r : Result Flow Stop} → Handles T c all o s r s' → List Entered
  verbs_of_handling (handles f d) = verbs_of_handler d
  verbs_of_handling _ = []

  pub verbs_of_handler : {T : Telling} {c : Context} {g : Option Guarded} {raise : Raise} {s s' : State} {o : Result Flow Stop} → Takes T c g raise s o s' → List Entered
  verbs_of_handler (takes f e d) = verbs_of_block d
  verbs_of_handler _ = []

-- Each verb that runs has a frame.
use Rattle.std.proofs.Common.{◌≤◌, ℕ, ℤ, pos, List, ◌∷◌, [], ◌++◌, Option, Result}
use Rattle.std.specs.Prelude.{All}
use Rattle.std.proofs.lemmas.List.Elements.{All-nil, All-cons, All-append}
use Rattle.moo_value.specs.Tree.{Tree, integer}
use Rattle.moo_syntax_ast.specs.Tree.{Expr, Items, Stmt, Arms, Handlers, Block}
use Rattle.moo_eval_control.specs.declared.leading.Span.{Span}
use Rattle.moo_eval_frame.specs.Outcome.{Raise, Stop, Failure, Flow}
use Rattle.moo_eval_slot.specs.Bindings.{Binding}
use Rattle.moo_eval_control.specs.Handling.{Guarded}
use Rattle.moo_eval_control.specs.Scatter.{LeftOut}
use Rattle.moo_eval_frame.specs.State.{Context}
use Rattle.moo_eval_access.specs.State.{State}
use Rattle.moo_eval_access.specs.Entering.{Entered, frames, most_frames}
use Rattle.moo_eval_access.specs.Target.{Root, Step, Path}
use Rattle.moo_builtin.specs.Telling.{Telling}
use Rattle.moo_eval_semantics.specs.Progressing.{Progress}
use Rattle.moo_eval_semantics.proofs.Entering.{RoomNext, room_entered, room_begun, room_resumed}
use Rattle.moo_eval_semantics.specs.Meaning.{Evaluates, Computes, EvaluatesAll, Applies, Assigns, Locates, Finds, Enters, Steps, Stores, Puts, SetsDefaults, spent, begins, operands_end, places_end, applies, no_more, element_stops, element_then, splice_stops, splice_fails, splice_then, optional_fails, defaulted_fails, literal_is, variable_is, length_is, unary_is, binary_is, logic_decides, logic_goes_on, conditional_true, conditional_false, index_is, range_is, list_is, property_is, verb_fails, verb_runs, call_is, call_runs, Proceeds, is_done, hook_stops, hook_then, at_once, assign_is, catch_passes, catch_gives, catch_or_passes, catch_or_goes_on, target_ends, value_stops, assigns, root_ends, locates, parts_end, finds, inside, step_ends, enters, unread, spot_ends, steps_in, no_store, stores, puts_variable, property_unset, puts_property, scatter_fails, scatters, none_missing, default_stops, default_then, Prepares, Runs, Does, RunsAll, Selects, Turns, Loops, Visits, Counts, Handles, Takes, no_codes, codes_stop, codes_then, statement_spent, statement_begins, gives_zero, gives, evaluates, selects, list_stops, list_fails, visits, span_stops, span_fails, counts, loops, breaks_out, continues_on, unprepared, tries, finally_skipped, finally_runs, ends, leaves, proceeds, none_selected, else_runs, test_stops, arm_runs, arm_passed, turn_spent, turns, loop_stops, loop_ends, loop_left, loop_then, all_visited, visit_left, visit_then, all_counted, count_left, count_then, nothing_raised, ticks_out, handles, untaken, untold, takes}
use Rattle.moo_eval_semantics.specs.Frames.{HasRoom, verbs_of_expression, verbs_of_parts, verbs_of_items, verbs_of_application, verbs_of_function, verbs_of_assignment, verbs_of_target, verbs_of_root, verbs_of_steps, verbs_of_step, verbs_of_store, verbs_of_put, verbs_of_defaults, verbs_of_codes, verbs_of_statement, verbs_of_deed, verbs_of_block, verbs_of_arms, verbs_of_turn, verbs_of_loop, verbs_of_visits, verbs_of_count, verbs_of_handling, verbs_of_handler}

-- each of these has a frame
pub record HaveRoom (es : List Entered) : Type 0 where
  pub all : All HasRoom es

none : HaveRoom []
none = record { all = All-nil HasRoom }

first : {e : Entered} {es : List Entered} → frames e.context.callers ≤ most_frames → HaveRoom es → HaveRoom (e ∷ es)
first {e = e} {es = es} h k = record { all = All-cons HasRoom e es h k.all }

both : {es ds : List Entered} → HaveRoom es → HaveRoom ds → HaveRoom (es ++ ds)
both {es = es} {ds = ds} h k = record { all = All-append HasRoom es ds h.all k.all }

mutual
  pub room_expression : {T : Telling} {c : Context} {e : Expr} {s s' : State} {o : Result Tree Stop} → (d : Evaluates T c e s o s') → HaveRoom (verbs_of_expression d)
  room_expression (spent z) = none
  room_expression (begins z d f) = room_parts d

  room_parts : {T : Telling} {c : Context} {e : Expr} {s s' : State} {o : Result Tree Failure} → (d : Computes T c e s o s') → HaveRoom (verbs_of_parts d)
  room_parts (operands_end d) = room_items d
  room_parts (places_end d g) = both (room_items d) (room_items g)
  room_parts (applies d g a) = both (both (room_items d) (room_items g)) (room_application a)

  room_items : {T : Telling} {c : Context} {es : Items} {s s' : State} {o : Result (List Tree) Failure} → (d : EvaluatesAll T c es s o s') → HaveRoom (verbs_of_items d)
  room_items no_more = none
  room_items (element_stops d) = room_expression d
  room_items (element_then d a g) = both (room_expression d) (room_items a)
  room_items (splice_stops d) = room_expression d
  room_items (splice_fails d f) = room_expression d
  room_items (splice_then d f a g) = both (room_expression d) (room_items a)
  room_items optional_fails = none
  room_items defaulted_fails = none

  room_application : {T : Telling} {c : Context} {e : Expr} {vs ws : List Tree} {s s' : State} {o : Result Tree Failure} → (d : Applies T c e vs ws s o s') → HaveRoom (verbs_of_application d)
  room_application literal_is = none
  room_application (variable_is f) = none
  room_application (length_is f) = none
  room_application (unary_is f) = none
  room_application (binary_is f) = none
  room_application (logic_decides f) = none
  room_application (logic_goes_on f d g) = room_expression d
  room_application (conditional_true f d g) = room_expression d
  room_application (conditional_false f d g) = room_expression d
  room_application (index_is f) = none
  room_application (range_is f) = none
  room_application (list_is f) = none
  room_application (property_is f) = none
  room_application (verb_fails f) = none
  room_application (verb_runs {c = c} {s = s} {x = x} {y = y} {vs = vs} f d l g) = first (room_entered s.world c s.variables s.programmer x y vs f) (room_block d)
  room_application (call_is g f) = none
  room_application (call_runs g b d) = room_function (room_begun b) d
  room_application (assign_is d) = room_assignment d
  room_application (catch_passes d f g) = room_expression d
  room_application (catch_gives d f) = room_expression d
  room_application (catch_or_passes d f g) = room_expression d
  room_application (catch_or_goes_on d f e g) = both (room_expression d) (room_expression e)

  pub room_function : {T : Telling} {c : Context} {x : Progress} {s s' : State} {o : Result Tree Failure} → RoomNext x → (d : Proceeds T c x s o s') → HaveRoom (verbs_of_function d)
  room_function k is_done = none
  room_function k (hook_stops d l g) = first k (room_block d)
  room_function k (hook_then {c = c} {stage = at} {s'' = u} {v = v} d l g f a) = first k (both (room_block d) (room_function (room_resumed c at v u f) a))
  room_function k (at_once {c = c} {stage = at} {s = s} f a) = room_function (room_resumed c at (integer (pos 0)) s f) a

  room_assignment : {T : Telling} {c : Context} {t e : Expr} {s s' : State} {o : Result Tree Failure} → (d : Assigns T c t e s o s') → HaveRoom (verbs_of_assignment d)
  room_assignment (target_ends d) = room_target d
  room_assignment (value_stops d g) = both (room_target d) (room_expression g)
  room_assignment (assigns d g a f) = both (both (room_target d) (room_expression g)) (room_store a)

  room_target : {T : Telling} {c : Context} {t : Expr} {s s' : State} {o : Result Path Failure} → (d : Locates T c t s o s') → HaveRoom (verbs_of_target d)
  room_target (root_ends d) = room_root d
  room_target (locates d g) = both (room_root d) (room_steps g)

  room_root : {T : Telling} {c : Context} {t : Expr} {s s' : State} {o : Result Root Failure} → (d : Finds T c t s o s') → HaveRoom (verbs_of_root d)
  room_root (parts_end d) = room_items d
  room_root (finds d f) = room_items d

  room_steps : {T : Telling} {c : Context} {root : Root} {steps : List Step} {spots : List Items} {s s' : State} {o : Result Path Failure} → (d : Enters T c root steps spots s o s') → HaveRoom (verbs_of_steps d)
  room_steps inside = none
  room_steps (step_ends d) = room_step d
  room_steps (enters d g) = both (room_step d) (room_steps g)

  room_step : {T : Telling} {c : Context} {root : Root} {steps : List Step} {spot : Items} {s s' : State} {o : Result Step Failure} → (d : Steps T c root steps spot s o s') → HaveRoom (verbs_of_step d)
  room_step (unread f) = none
  room_step (spot_ends f d) = room_items d
  room_step (steps_in f d) = room_items d

  room_store : {T : Telling} {c : Context} {root : Root} {steps : List Step} {v : Tree} {s s' : State} {o : Result (Unit {0}) Failure} → (d : Stores T c root steps v s o s') → HaveRoom (verbs_of_store d)
  room_store (no_store f) = none
  room_store (stores f d) = room_put d

  room_put : {T : Telling} {c : Context} {root : Root} {v : Tree} {s s' : State} {o : Result (Unit {0}) Failure} → (d : Puts T c root v s o s') → HaveRoom (verbs_of_put d)
  room_put (puts_variable e) = none
  room_put (property_unset f) = none
  room_put (puts_property f e) = none
  room_put (scatter_fails f) = none
  room_put (scatters f e d) = room_defaults d

  room_defaults : {T : Telling} {c : Context} {ds : List LeftOut} {s s' : State} {o : Result (Unit {0}) Failure} → (d : SetsDefaults T c ds s o s') → HaveRoom (verbs_of_defaults d)
  room_defaults none_missing = none
  room_defaults (default_stops d) = room_expression d
  room_defaults (default_then d e g) = both (room_expression d) (room_defaults g)

  room_codes : {T : Telling} {c : Context} {hs : Handlers} {s s' : State} {o : Result (List Guarded) Stop} → (d : Prepares T c hs s o s') → HaveRoom (verbs_of_codes d)
  room_codes no_codes = none
  room_codes (codes_stop d f) = room_items d
  room_codes (codes_then d f a g) = both (room_items d) (room_codes a)

  room_statement : {T : Telling} {c : Context} {t : Stmt} {s s' : State} {o : Result Flow Stop} → (d : Runs T c t s o s') → HaveRoom (verbs_of_statement d)
  room_statement (statement_spent z) = none
  room_statement (statement_begins z d) = room_deed d

  room_deed : {T : Telling} {c : Context} {t : Stmt} {s s' : State} {o : Result Flow Stop} → (d : Does T c t s o s') → HaveRoom (verbs_of_deed d)
  room_deed gives_zero = none
  room_deed (gives d g) = room_expression d
  room_deed (evaluates d g) = room_expression d
  room_deed (selects d) = room_arms d
  room_deed (list_stops d) = room_expression d
  room_deed (list_fails d f g) = room_expression d
  room_deed (visits d f a) = both (room_expression d) (room_visits a)
  room_deed (span_stops d) = room_items d
  room_deed (span_fails d f g) = room_items d
  room_deed (counts d f a) = both (room_items d) (room_count a)
  room_deed (loops d) = room_loop d
  room_deed breaks_out = none
  room_deed continues_on = none
  room_deed (unprepared d) = room_codes d
  room_deed (tries d a g) = both (both (room_codes d) (room_block a)) (room_handling g)
  room_deed (finally_skipped d f) = room_block d
  room_deed (finally_runs d f a g) = both (room_block d) (room_block a)

  pub room_block : {T : Telling} {c : Context} {b : Block} {s s' : State} {o : Result Flow Stop} → (d : RunsAll T c b s o s') → HaveRoom (verbs_of_block d)
  room_block ends = none
  room_block (leaves d f) = room_statement d
  room_block (proceeds d a) = both (room_statement d) (room_block a)

  room_arms : {T : Telling} {c : Context} {arms : Arms} {s s' : State} {o : Result Flow Stop} → (d : Selects T c arms s o s') → HaveRoom (verbs_of_arms d)
  room_arms none_selected = none
  room_arms (else_runs d) = room_block d
  room_arms (test_stops d) = room_expression d
  room_arms (arm_runs d f a) = both (room_expression d) (room_block a)
  room_arms (arm_passed d f a) = both (room_expression d) (room_arms a)

  room_turn : {T : Telling} {c : Context} {own : Option (List ℕ)} {bindings : List Binding} {b : Block} {s s' : State} {o : Option (Result Flow Stop)} → (d : Turns T c own bindings b s o s') → HaveRoom (verbs_of_turn d)
  room_turn (turn_spent z) = none
  room_turn (turns z e a g) = room_block a

  room_loop : {T : Telling} {c : Context} {own : Option (List ℕ)} {e : Expr} {b : Block} {s s' : State} {o : Result Flow Stop} → (d : Loops T c own e b s o s') → HaveRoom (verbs_of_loop d)
  room_loop (loop_stops d) = room_expression d
  room_loop (loop_ends d f) = room_expression d
  room_loop (loop_left d f a) = both (room_expression d) (room_turn a)
  room_loop (loop_then d f a m) = both (both (room_expression d) (room_turn a)) (room_loop m)

  room_visits : {T : Telling} {c : Context} {x : List ℕ} {vs : List Tree} {b : Block} {s s' : State} {o : Result Flow Stop} → (d : Visits T c x vs b s o s') → HaveRoom (verbs_of_visits d)
  room_visits all_visited = none
  room_visits (visit_left a) = room_turn a
  room_visits (visit_then a m) = both (room_turn a) (room_visits m)

  room_count : {T : Telling} {c : Context} {x : List ℕ} {span : Span} {n : ℤ} {b : Block} {s s' : State} {o : Result Flow Stop} → (d : Counts T c x span n b s o s') → HaveRoom (verbs_of_count d)
  room_count (all_counted f) = none
  room_count (count_left f a) = room_turn a
  room_count (count_then f a m) = both (room_turn a) (room_count m)

  room_handling : {T : Telling} {c : Context} {all : List Guarded} {o : Result Flow Stop} {s s' : State} {r : Result Flow Stop} → (d : Handles T c all o s r s') → HaveRoom (verbs_of_handling d)
  room_handling nothing_raised = none
  room_handling ticks_out = none
  room_handling (handles f d) = room_handler d

  room_handler : {T : Telling} {c : Context} {g : Option Guarded} {raise : Raise} {s s' : State} {o : Result Flow Stop} → (d : Takes T c g raise s o s') → HaveRoom (verbs_of_handler d)
  room_handler untaken = none
  room_handler (untold f) = none
  room_handler (takes f e d) = room_block d

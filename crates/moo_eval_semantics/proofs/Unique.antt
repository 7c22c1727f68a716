-- For one input an expression and a statement have at most one result, by two ways to report faults that agree.
use Rattle.std.proofs.Common.{◌≡◌, ℕ, ℤ, pos, ◌+ℤ◌, List, [], ◌∷◌, Option, Some, None, Result, Ok, Err, refl, sym, ap, ◌∙◌, subst, arith}
use Rattle.moo_value.specs.Tree.{Tree}
use Rattle.moo_syntax_ast.specs.Tree.{Expr, Items, Stmt, Arms, Handlers, Block}
use Rattle.moo_eval_control.specs.declared.leading.Span.{Span}
use Rattle.moo_eval_frame.specs.Outcome.{Raise, Stop, Failure, Flow, answers, passes, settled, goes_out, goes_next, goes_on}
use Rattle.moo_eval_slot.specs.Bindings.{Binding, bind}
use Rattle.moo_eval_control.specs.Catching.{caught}
use Rattle.moo_eval_control.specs.Leading.{after_turn, runs_finally, after_finally}
use Rattle.moo_eval_control.specs.Handling.{Guarded, guarded, guarded_before}
use Rattle.moo_eval_control.specs.Scatter.{given, LeftOut, missing}
use Rattle.moo_eval_frame.specs.State.{Context, within, outside}
use Rattle.moo_builtin.specs.Telling.{Telling}
use Rattle.moo_eval_semantics.proofs.Agreed.{Agree, agreed_call}
use Rattle.moo_eval_access.specs.State.{State, bound, trace}
use Rattle.moo_eval_access.specs.Target.{Root, Step, Path, spots, root_from}
use Rattle.moo_eval_semantics.specs.Progressing.{Progress}
use Rattle.moo_eval_semantics.specs.VerbCalls.{Starts}
use Rattle.moo_eval_semantics.specs.Stages.{resumed}
use Rattle.moo_eval_semantics.proofs.Begun.{one_start}
use Rattle.moo_eval_semantics.specs.Operands.{places, before, with_value, answered, begun, left}
use Rattle.moo_eval_semantics.specs.Meaning.{Evaluates, Computes, EvaluatesAll, Applies, Assigns, Locates, Finds, Enters, Steps, Stores, Puts, SetsDefaults, spent, begins, operands_end, places_end, applies, no_more, element_stops, element_then, splice_stops, splice_fails, splice_then, optional_fails, defaulted_fails, literal_is, variable_is, length_is, unary_is, binary_is, logic_decides, logic_goes_on, conditional_true, conditional_false, index_is, range_is, list_is, property_is, verb_fails, verb_runs, call_is, call_runs, Proceeds, is_done, hook_stops, hook_then, at_once, assign_is, catch_passes, catch_gives, catch_or_passes, catch_or_goes_on, target_ends, value_stops, assigns, root_ends, locates, parts_end, finds, inside, step_ends, enters, unread, spot_ends, steps_in, no_store, stores, puts_variable, property_unset, puts_property, scatter_fails, scatters, none_missing, default_stops, default_then, Prepares, Runs, Does, RunsAll, Selects, Turns, Loops, Visits, Counts, Handles, Takes, no_codes, codes_stop, codes_then, statement_spent, statement_begins, gives_zero, gives, evaluates, selects, list_stops, list_fails, visits, span_stops, span_fails, counts, loops, breaks_out, continues_on, unprepared, tries, finally_skipped, finally_runs, ends, leaves, proceeds, none_selected, else_runs, test_stops, arm_runs, arm_passed, turn_spent, turns, loop_stops, loop_ends, loop_left, loop_then, all_visited, visit_left, visit_then, all_counted, count_left, count_then, nothing_raised, ticks_out, handles, untaken, untold, takes}
use Rattle.moo_eval_semantics.proofs.Moved.{Same, moved, moved_twice, at_state, one_code, one_refusal}

mutual
  pub one_result : (T U : Telling) (agree : Agree T U) {c : Context} {e : Expr} {s s' t : State} {o p : Result Tree Stop} → Evaluates T c e s o s' → Evaluates U c e s p t → Same o s' p t
  one_result T U agree (spent z) (spent z') = (refl, refl)
  one_result T U agree (spent z) (begins z' d' f') = absurd (omega arith)
  one_result T U agree (begins z d f) (spent z') = absurd (omega arith)
  one_result T U agree (begins {c = c} {s' = u} {o = o} z d f) (begins {s' = v} {o = p} z' d' f') =
      let h = one_computed T U agree d d' in
      (sym f ∙ ap (λ x. settled c.frame.d (trace c x) o) h.1 ∙ ap (settled c.frame.d (trace c v)) h.0 ∙ f', h.1)

  one_computed : (T U : Telling) (agree : Agree T U) {c : Context} {e : Expr} {s s' t : State} {o p : Result Tree Failure} → Computes T c e s o s' → Computes U c e s p t → Same o s' p t
  one_computed T U agree (operands_end d) (operands_end d') = let h = one_list T U agree d d' in (cc, h.1)
  one_computed T U agree (operands_end d) (places_end d' g') = let h = one_list T U agree d d' in cc
  one_computed T U agree (operands_end d) (applies d' g' a') = let h = one_list T U agree d d' in cc
  one_computed T U agree (places_end d g) (operands_end d') = let h = one_list T U agree d d' in cc
  one_computed T U agree (places_end {c = c} {e = e} {vs = vs} d g) (places_end {s'' = t} {vs = vs'} {failure = p} d' g') =
      let h = one_list T U agree d d' in
      let q : vs ≡ vs' = cc in
      let k = one_list T U agree g (moved (λ x r. EvaluatesAll U (within c x) (places e) r (Err p) t) q h.1 g') in
      (cc, k.1)
  one_computed T U agree (places_end {c = c} {e = e} {vs = vs} d g) (applies {s'' = t} {vs = vs'} {ws = ws} d' g' a') =
      let h = one_list T U agree d d' in
      let q : vs ≡ vs' = cc in
      let k = one_list T U agree g (moved (λ x r. EvaluatesAll U (within c x) (places e) r (Ok ws) t) q h.1 g') in
      cc
  one_computed T U agree (applies d g a) (operands_end d') = let h = one_list T U agree d d' in cc
  one_computed T U agree (applies {c = c} {e = e} {vs = vs} d g a) (places_end {s'' = t} {vs = vs'} {failure = p} d' g') =
      let h = one_list T U agree d d' in
      let q : vs ≡ vs' = cc in
      let k = one_list T U agree g (moved (λ x r. EvaluatesAll U (within c x) (places e) r (Err p) t) q h.1 g') in
      cc
  one_computed T U agree (applies {c = c} {e = e} {vs = vs} {ws = ws} d g a) (applies {s'' = t} {s3 = u} {vs = vs'} {ws = ws'} {o = p} d' g' a') =
      let h = one_list T U agree d d' in
      let q : vs ≡ vs' = cc in
      let k = one_list T U agree g (moved (λ x r. EvaluatesAll U (within c x) (places e) r (Ok ws') t) q h.1 g') in
      let r : ws ≡ ws' = cc in
      one_applied T U agree a (moved_twice (λ x y z. Applies U c e x y z p u) q r k.1 a')

  pub one_list : (T U : Telling) (agree : Agree T U) {c : Context} {es : Items} {s s' t : State} {o p : Result (List Tree) Failure} → EvaluatesAll T c es s o s' → EvaluatesAll U c es s p t → Same o s' p t
  one_list T U agree no_more no_more = (refl, refl)
  one_list T U agree (element_stops d) (element_stops d') = let h = one_result T U agree d d' in (cc, h.1)
  one_list T U agree (element_stops d) (element_then d' a' g') = let h = one_result T U agree d d' in cc
  one_list T U agree (element_then d a g) (element_stops d') = let h = one_result T U agree d d' in cc
  one_list T U agree (element_then {c = c} {es = es} {v = v} {o = o} d a g) (element_then {s'' = t} {v = w} {o = p} d' a' g') =
      let h = one_result T U agree d d' in
      let r = one_list T U agree a (at_state (λ x. EvaluatesAll U c es x p t) h.1 a') in
      let q : v ≡ w = cc in
      (sym g ∙ ap (λ x. before (x ∷ []) o) q ∙ ap (before (w ∷ [])) r.0 ∙ g', r.1)
  one_list T U agree (splice_stops d) (splice_stops d') = let h = one_result T U agree d d' in (cc, h.1)
  one_list T U agree (splice_stops d) (splice_fails d' f') = let h = one_result T U agree d d' in cc
  one_list T U agree (splice_stops d) (splice_then d' f' a' g') = let h = one_result T U agree d d' in cc
  one_list T U agree (splice_fails d f) (splice_stops d') = let h = one_result T U agree d d' in cc
  one_list T U agree (splice_fails {v = v} d f) (splice_fails {v = w} d' f') =
      let h = one_result T U agree d d' in
      let q : v ≡ w = cc in
      (cc, h.1)
  one_list T U agree (splice_fails {v = v} d f) (splice_then {v = w} d' f' a' g') =
      let h = one_result T U agree d d' in
      let q : v ≡ w = cc in
      cc
  one_list T U agree (splice_then d f a g) (splice_stops d') = let h = one_result T U agree d d' in cc
  one_list T U agree (splice_then {v = v} d f a g) (splice_fails {v = w} d' f') =
      let h = one_result T U agree d d' in
      let q : v ≡ w = cc in
      cc
  one_list T U agree (splice_then {c = c} {es = es} {v = v} {vs = vs} {o = o} d f a g) (splice_then {s'' = t} {v = w} {vs = ws} {o = p} d' f' a' g') =
      let h = one_result T U agree d d' in
      let r = one_list T U agree a (at_state (λ x. EvaluatesAll U c es x p t) h.1 a') in
      let q : v ≡ w = cc in
      let k : vs ≡ ws = cc in
      (sym g ∙ ap (λ x. before x o) k ∙ ap (before ws) r.0 ∙ g', r.1)
  one_list T U agree optional_fails optional_fails = (refl, refl)
  one_list T U agree defaulted_fails defaulted_fails = (refl, refl)

  one_applied : (T U : Telling) (agree : Agree T U) {c : Context} {e : Expr} {vs ws : List Tree} {s s' t : State} {o p : Result Tree Failure} → Applies T c e vs ws s o s' → Applies U c e vs ws s p t → Same o s' p t
  one_applied T U agree literal_is literal_is = (refl, refl)
  one_applied T U agree (variable_is f) (variable_is f') = (sym f ∙ f', refl)
  one_applied T U agree (length_is f) (length_is f') = (sym f ∙ f', refl)
  one_applied T U agree (unary_is f) (unary_is f') = (sym f ∙ f', refl)
  one_applied T U agree (binary_is f) (binary_is f') = (sym f ∙ f', refl)
  one_applied T U agree (logic_decides f) (logic_decides f') = (refl, refl)
  one_applied T U agree (logic_decides f) (logic_goes_on f' d' g') = cc
  one_applied T U agree (logic_goes_on f d g) (logic_decides f') = cc
  one_applied T U agree (logic_goes_on f d g) (logic_goes_on f' d' g') = let h = one_result T U agree d d' in (sym g ∙ ap passes h.0 ∙ g', h.1)
  one_applied T U agree (conditional_true f d g) (conditional_true f' d' g') = let h = one_result T U agree d d' in (sym g ∙ ap passes h.0 ∙ g', h.1)
  one_applied T U agree (conditional_true f d g) (conditional_false f' d' g') = cc
  one_applied T U agree (conditional_false f d g) (conditional_true f' d' g') = cc
  one_applied T U agree (conditional_false f d g) (conditional_false f' d' g') = let h = one_result T U agree d d' in (sym g ∙ ap passes h.0 ∙ g', h.1)
  one_applied T U agree (index_is f) (index_is f') = (sym f ∙ f', refl)
  one_applied T U agree (range_is f) (range_is f') = (sym f ∙ f', refl)
  one_applied T U agree (list_is f) (list_is f') = (sym f ∙ f', refl)
  one_applied T U agree (property_is f) (property_is f') = (sym f ∙ f', refl)
  one_applied T U agree (verb_fails f) (verb_fails f') = (cc, refl)
  one_applied T U agree (verb_fails f) (verb_runs f' d' l' g') = cc
  one_applied T U agree (verb_runs f d l g) (verb_fails f') = cc
  one_applied T U agree (verb_runs {s = s} {e = x} f d l g) (verb_runs {s' = t} {e = y} {o = p} f' d' l' g') =
      let q : x ≡ y = cc in
      let h = one_block T U agree d (subst (λ z. RunsAll U z.context z.context.frame.program (begun z s) p t) (sym q) d') in
      (sym g ∙ ap answered h.0 ∙ g', sym l ∙ ap (left s) h.1 ∙ l')
  one_applied T U agree (call_is {c = c} {s = s} {s' = s'} {name = name} {vs = vs} {r = r} g f) (call_is {s' = t} {r = q} g' f') = agreed_call T U agree (outside c) name vs s s' t r q f f'
  one_applied T U agree (call_is g f) (call_runs g' b' d') = cc
  one_applied T U agree (call_runs g b d) (call_is g' f') = cc
  one_applied T U agree (call_runs {c = c} {s = s} {s' = u} {vs = vs} {f = f} g b d) (call_runs {s' = v} {s'' = t} {f = f'} {p = p} {r = r} g' b' d') =
      let q : f ≡ f' = cc in
      let h = one_start T U agree b (subst (λ x. Starts U (outside c) x vs s p v) (sym q) b') in
      one_progress T U agree d (moved (λ x y. Proceeds U (outside c) x y r t) h.0 h.1 d')
  one_applied T U agree (assign_is d) (assign_is d') = one_assigned T U agree d d'
  one_applied T U agree (catch_passes d f g) (catch_passes d' f' g') = let h = one_result T U agree d d' in (sym g ∙ ap passes h.0 ∙ g', h.1)
  one_applied T U agree (catch_passes {codes = codes} {vs = vs} d f g) (catch_gives d' f') = let h = one_result T U agree d d' in let q = sym f ∙ ap (caught codes vs) h.0 in cc
  one_applied T U agree (catch_gives {codes = codes} {vs = vs} d f) (catch_passes d' f' g') = let h = one_result T U agree d d' in let q = sym f ∙ ap (caught codes vs) h.0 in cc
  one_applied T U agree (catch_gives {codes = codes} {vs = vs} d f) (catch_gives d' f') = let h = one_result T U agree d d' in let q = sym f ∙ ap (caught codes vs) h.0 in (cc, h.1)
  one_applied T U agree (catch_or_passes d f g) (catch_or_passes d' f' g') = let h = one_result T U agree d d' in (sym g ∙ ap passes h.0 ∙ g', h.1)
  one_applied T U agree (catch_or_passes {codes = codes} {vs = vs} d f g) (catch_or_goes_on d' f' e' g') = let h = one_result T U agree d d' in let q = sym f ∙ ap (caught codes vs) h.0 in cc
  one_applied T U agree (catch_or_goes_on {codes = codes} {vs = vs} d f e g) (catch_or_passes d' f' g') = let h = one_result T U agree d d' in let q = sym f ∙ ap (caught codes vs) h.0 in cc
  one_applied T U agree (catch_or_goes_on {c = c} {b = b} d f e g) (catch_or_goes_on {s'' = t} {p = p} d' f' e' g') =
      let h = one_result T U agree d d' in
      let k = one_result T U agree e (at_state (λ x. Evaluates U c b x p t) h.1 e') in
      (sym g ∙ ap passes k.0 ∙ g', k.1)

  one_progress : (T U : Telling) (agree : Agree T U) {c : Context} {x : Progress} {s s' t : State} {o p : Result Tree Failure} → Proceeds T c x s o s' → Proceeds U c x s p t → Same o s' p t
  one_progress T U agree is_done is_done = (refl, refl)
  one_progress T U agree (hook_stops {s = s} d l g) (hook_stops d' l' g') =
      let h = one_block T U agree d d' in
      let q = sym g ∙ ap answered h.0 ∙ g' in
      (cc, sym l ∙ ap (left s) h.1 ∙ l')
  one_progress T U agree (hook_stops d l g) (hook_then d' l' g' f' a') =
      let h = one_block T U agree d d' in
      let q = sym g ∙ ap answered h.0 ∙ g' in
      cc
  one_progress T U agree (hook_then d l g f a) (hook_stops d' l' g') =
      let h = one_block T U agree d d' in
      let q = sym g ∙ ap answered h.0 ∙ g' in
      cc
  one_progress T U agree (hook_then {c = c} {stage = stage} {s = s} {s'' = u} {v = v} d l g f a) (hook_then {s'' = u'} {s4 = t} {v = w} {r = r} d' l' g' f' a') =
      let h = one_block T U agree d d' in
      let q = sym g ∙ ap answered h.0 ∙ g' in
      let same : v ≡ w = cc in
      let k : u ≡ u' = sym l ∙ ap (left s) h.1 ∙ l' in
      let m = sym f ∙ ap (λ x. resumed c stage x u) same ∙ ap (resumed c stage w) k ∙ f' in
      one_progress T U agree a (moved (λ x y. Proceeds U c x y r t) (ap (λ x. x.0) m) (ap (λ x. x.1) m) a')
  one_progress T U agree (at_once {c = c} f a) (at_once {s'' = t} {r = r} f' a') =
      let m = sym f ∙ f' in
      one_progress T U agree a (moved (λ x y. Proceeds U c x y r t) (ap (λ x. x.0) m) (ap (λ x. x.1) m) a')

  one_assigned : (T U : Telling) (agree : Agree T U) {c : Context} {a e : Expr} {s s' t : State} {o p : Result Tree Failure} → Assigns T c a e s o s' → Assigns U c a e s p t → Same o s' p t
  one_assigned T U agree (target_ends d) (target_ends d') = let h = one_place T U agree d d' in (cc, h.1)
  one_assigned T U agree (target_ends d) (value_stops d' e') = let h = one_place T U agree d d' in cc
  one_assigned T U agree (target_ends d) (assigns d' e' r' g') = let h = one_place T U agree d d' in cc
  one_assigned T U agree (value_stops d e) (target_ends d') = let h = one_place T U agree d d' in cc
  one_assigned T U agree (value_stops {c = c} {e = x} d e) (value_stops {s'' = t} {stop = stop} d' e') =
      let h = one_place T U agree d d' in
      let k = one_result T U agree e (at_state (λ y. Evaluates U c x y (Err stop) t) h.1 e') in
      (cc, k.1)
  one_assigned T U agree (value_stops {c = c} {e = x} d e) (assigns {s'' = t} {v = v} d' e' r' g') =
      let h = one_place T U agree d d' in
      let k = one_result T U agree e (at_state (λ y. Evaluates U c x y (Ok v) t) h.1 e') in
      cc
  one_assigned T U agree (assigns d e r g) (target_ends d') = let h = one_place T U agree d d' in cc
  one_assigned T U agree (assigns {c = c} {e = x} d e r g) (value_stops {s'' = t} {stop = stop} d' e') =
      let h = one_place T U agree d d' in
      let k = one_result T U agree e (at_state (λ y. Evaluates U c x y (Err stop) t) h.1 e') in
      cc
  one_assigned T U agree (assigns {c = c} {e = x} {path = path} {v = v} {o = o} d e r g) (assigns {s'' = t} {s3 = u} {path = path'} {v = w} {o = p} d' e' r' g') =
      let h = one_place T U agree d d' in
      let k = one_result T U agree e (at_state (λ y. Evaluates U c x y (Ok w) t) h.1 e') in
      let q : path ≡ path' = cc in
      let m : v ≡ w = cc in
      let n = one_stored T U agree r (moved_twice (λ (y : Path) z i. Stores U c y.root y.steps z i p u) q m k.1 r') in
      (sym g ∙ ap (λ y. with_value y o) m ∙ ap (with_value w) n.0 ∙ g', n.1)

  one_place : (T U : Telling) (agree : Agree T U) {c : Context} {a : Expr} {s s' t : State} {o p : Result Path Failure} → Locates T c a s o s' → Locates U c a s p t → Same o s' p t
  one_place T U agree (root_ends d) (root_ends d') = let h = one_found T U agree d d' in (cc, h.1)
  one_place T U agree (root_ends d) (locates d' e') = let h = one_found T U agree d d' in cc
  one_place T U agree (locates d e) (root_ends d') = let h = one_found T U agree d d' in cc
  one_place T U agree (locates {c = c} {t = a} {root = x} d e) (locates {s'' = t} {root = y} {o = p} d' e') =
      let h = one_found T U agree d d' in
      let q : x ≡ y = cc in
      one_entered T U agree e (moved (λ z i. Enters U c z [] (spots a) i p t) q h.1 e')

  one_found : (T U : Telling) (agree : Agree T U) {c : Context} {a : Expr} {s s' t : State} {o p : Result Root Failure} → Finds T c a s o s' → Finds U c a s p t → Same o s' p t
  one_found T U agree (parts_end d) (parts_end d') = let h = one_list T U agree d d' in (cc, h.1)
  one_found T U agree (parts_end d) (finds d' f') = let h = one_list T U agree d d' in cc
  one_found T U agree (finds d f) (parts_end d') = let h = one_list T U agree d d' in cc
  one_found T U agree (finds {e = a} {vs = vs} d f) (finds {vs = ws} d' f') =
      let h = one_list T U agree d d' in
      let q : vs ≡ ws = cc in
      (sym f ∙ ap (λ x. answers (root_from a x)) q ∙ f', h.1)

  one_entered : (T U : Telling) (agree : Agree T U) {c : Context} {root : Root} {steps : List Step} {rest : List Items} {s s' t : State} {o p : Result Path Failure} → Enters T c root steps rest s o s' → Enters U c root steps rest s p t → Same o s' p t
  one_entered T U agree inside inside = (refl, refl)
  one_entered T U agree (step_ends d) (step_ends d') = let h = one_step T U agree d d' in (cc, h.1)
  one_entered T U agree (step_ends d) (enters d' e') = let h = one_step T U agree d d' in cc
  one_entered T U agree (enters d e) (step_ends d') = let h = one_step T U agree d d' in cc
  one_entered T U agree (enters {c = c} {root = root} {steps = steps} {rest = rest} {step = x} d e) (enters {s'' = t} {step = y} {o = p} d' e') =
      let h = one_step T U agree d d' in
      let q : x ≡ y = cc in
      one_entered T U agree e (moved (λ z i. Enters U c root (z ∷ steps) rest i p t) q h.1 e')

  one_step : (T U : Telling) (agree : Agree T U) {c : Context} {root : Root} {steps : List Step} {spot : Items} {s s' t : State} {o p : Result Step Failure} → Steps T c root steps spot s o s' → Steps U c root steps spot s p t → Same o s' p t
  one_step T U agree (unread f) (unread f') = (cc, refl)
  one_step T U agree (unread f) (spot_ends f' d') = cc
  one_step T U agree (unread f) (steps_in f' d') = cc
  one_step T U agree (spot_ends f d) (unread f') = cc
  one_step T U agree (spot_ends {c = c} {spot = spot} {s = s} {x = x} f d) (spot_ends {s' = t} {x = y} {failure = p} f' d') =
      let q : x ≡ y = cc in
      let h = one_list T U agree d (subst (λ z. EvaluatesAll U (within c (z ∷ [])) spot s (Err p) t) (sym q) d') in
      (cc, h.1)
  one_step T U agree (spot_ends {c = c} {spot = spot} {s = s} {x = x} f d) (steps_in {s' = t} {x = y} {ys = ws} f' d') =
      let q : x ≡ y = cc in
      let h = one_list T U agree d (subst (λ z. EvaluatesAll U (within c (z ∷ [])) spot s (Ok ws) t) (sym q) d') in
      cc
  one_step T U agree (steps_in f d) (unread f') = cc
  one_step T U agree (steps_in {c = c} {spot = spot} {s = s} {x = x} f d) (spot_ends {s' = t} {x = y} {failure = p} f' d') =
      let q : x ≡ y = cc in
      let h = one_list T U agree d (subst (λ z. EvaluatesAll U (within c (z ∷ [])) spot s (Err p) t) (sym q) d') in
      cc
  one_step T U agree (steps_in {c = c} {spot = spot} {s = s} {x = x} {ys = vs} f d) (steps_in {s' = t} {x = y} {ys = ws} f' d') =
      let q : x ≡ y = cc in
      let h = one_list T U agree d (subst (λ z. EvaluatesAll U (within c (z ∷ [])) spot s (Ok ws) t) (sym q) d') in
      let r : vs ≡ ws = cc in
      (ap (λ z. Ok (record { container = z; places = vs })) q ∙ ap (λ z. Ok (record { container = y; places = z })) r, h.1)

  one_stored : (T U : Telling) (agree : Agree T U) {c : Context} {root : Root} {steps : List Step} {v : Tree} {s s' t : State} {o p : Result (Unit {0}) Failure} → Stores T c root steps v s o s' → Stores U c root steps v s p t → Same o s' p t
  one_stored T U agree (no_store f) (no_store f') = (cc, refl)
  one_stored T U agree (no_store f) (stores f' d') = cc
  one_stored T U agree (stores f d) (no_store f') = cc
  one_stored T U agree (stores {c = c} {root = root} {w = x} {s = s} f d) (stores {w = y} {s' = t} {o = p} f' d') =
      let q : x ≡ y = cc in
      one_put T U agree d (subst (λ z. Puts U c root z s p t) (sym q) d')

  one_put : (T U : Telling) (agree : Agree T U) {c : Context} {root : Root} {v : Tree} {s s' t : State} {o p : Result (Unit {0}) Failure} → Puts T c root v s o s' → Puts U c root v s p t → Same o s' p t
  one_put T U agree (puts_variable f) (puts_variable f') = (refl, sym f ∙ f')
  one_put T U agree (property_unset f) (property_unset f') = (cc, refl)
  one_put T U agree (property_unset f) (puts_property f' g') = cc
  one_put T U agree (puts_property f g) (property_unset f') = cc
  one_put T U agree (puts_property {s = s} {w = x} f g) (puts_property {w = y} f' g') =
      let q : x ≡ y = cc in
      (refl, sym g ∙ ap (λ z. record s { world = z }) q ∙ g')
  one_put T U agree (scatter_fails f) (scatter_fails f') = (cc, refl)
  one_put T U agree (scatter_fails f) (scatters f' g' d') = cc
  one_put T U agree (scatters f g d) (scatter_fails f') = cc
  one_put T U agree (scatters {c = c} {items = items} {vs = vs} {s = s} f g d) (scatters {vs = ws} {s'' = t} {o = p} f' g' d') =
      let q : vs ≡ ws = cc in
      let r = sym g ∙ ap (λ x. bound (given items x) s) q ∙ g' in
      one_default T U agree d (moved (λ x i. SetsDefaults U c (missing items x) i p t) q r d')

  one_default : (T U : Telling) (agree : Agree T U) {c : Context} {ds : List LeftOut} {s s' t : State} {o p : Result (Unit {0}) Failure} → SetsDefaults T c ds s o s' → SetsDefaults U c ds s p t → Same o s' p t
  one_default T U agree none_missing none_missing = (refl, refl)
  one_default T U agree (default_stops d) (default_stops d') = let h = one_result T U agree d d' in (cc, h.1)
  one_default T U agree (default_stops d) (default_then d' f' e') = let h = one_result T U agree d d' in cc
  one_default T U agree (default_then d f e) (default_stops d') = let h = one_result T U agree d d' in cc
  one_default T U agree (default_then {c = c} {d = x} {ds = ds} {s' = u} {v = v} d f e) (default_then {s3 = t} {v = w} {o = p} d' f' e') =
      let h = one_result T U agree d d' in
      let q : v ≡ w = cc in
      let r = sym f ∙ ap (λ z. bound (bind x.name z ∷ []) u) q ∙ ap (bound (bind x.name w ∷ [])) h.1 ∙ f' in
      one_default T U agree e (at_state (λ i. SetsDefaults U c ds i p t) r e')

  one_preparation : (T U : Telling) (agree : Agree T U) {c : Context} {hs : Handlers} {s s' t : State} {o p : Result (List Guarded) Stop} → Prepares T c hs s o s' → Prepares U c hs s p t → Same o s' p t
  one_preparation T U agree no_codes no_codes = (refl, refl)
  one_preparation T U agree (codes_stop {c = c} {s' = u} d f) (codes_stop {s' = w} d' f') = let h = one_list T U agree d d' in let q = one_code c u w f f' h in (cc, h.1)
  one_preparation T U agree (codes_stop {c = c} {s' = u} d f) (codes_then {s' = w} d' f' a' g') = let h = one_list T U agree d d' in let q = one_code c u w f f' h in cc
  one_preparation T U agree (codes_then {c = c} {s' = u} d f a g) (codes_stop {s' = w} d' f') = let h = one_list T U agree d d' in let q = one_code c u w f f' h in cc
  one_preparation T U agree (codes_then {c = c} {x = x} {codes = codes} {b = b} {hs = hs} {s' = u} {vs = vs} {r = r} d f a g) (codes_then {s' = w} {s'' = t} {vs = ws} {r = p} d' f' a' g') =
      let h = one_list T U agree d d' in
      let m = one_code c u w f f' h in
      let k : vs ≡ ws = cc in
      let l = one_preparation T U agree a (at_state (λ i. Prepares U c hs i p t) h.1 a') in
      (sym g ∙ ap (λ us. guarded_before (guarded x codes b us ∷ []) r) k ∙ ap (guarded_before (guarded x codes b ws ∷ [])) l.0 ∙ g', l.1)

  one_run : (T U : Telling) (agree : Agree T U) {c : Context} {b : Stmt} {s s' t : State} {o p : Result Flow Stop} → Runs T c b s o s' → Runs U c b s p t → Same o s' p t
  one_run T U agree (statement_spent z) (statement_spent z') = (refl, refl)
  one_run T U agree (statement_spent z) (statement_begins z' d') = absurd (omega arith)
  one_run T U agree (statement_begins z d) (statement_spent z') = absurd (omega arith)
  one_run T U agree (statement_begins z d) (statement_begins z' d') = one_done T U agree d d'

  one_done : (T U : Telling) (agree : Agree T U) {c : Context} {b : Stmt} {s s' t : State} {o p : Result Flow Stop} → Does T c b s o s' → Does U c b s p t → Same o s' p t
  one_done T U agree gives_zero gives_zero = (refl, refl)
  one_done T U agree (gives d g) (gives d' g') = let h = one_result T U agree d d' in (sym g ∙ ap goes_out h.0 ∙ g', h.1)
  one_done T U agree (evaluates d g) (evaluates d' g') = let h = one_result T U agree d d' in (sym g ∙ ap goes_next h.0 ∙ g', h.1)
  one_done T U agree (selects d) (selects d') = one_selection T U agree d d'
  one_done T U agree (list_stops d) (list_stops d') = let h = one_result T U agree d d' in (cc, h.1)
  one_done T U agree (list_stops d) (list_fails d' f' g') = let h = one_result T U agree d d' in cc
  one_done T U agree (list_stops d) (visits d' f' a') = let h = one_result T U agree d d' in cc
  one_done T U agree (list_fails d f g) (list_stops d') = let h = one_result T U agree d d' in cc
  one_done T U agree (list_fails {c = c} {s' = i} {v = v} {code = k} d f g) (list_fails {s' = j} {v = w} {code = l} d' f' g') =
      let h = one_result T U agree d d' in
      let q : v ≡ w = cc in
      let m : k ≡ l = cc in
      (one_refusal c i j g g' m h.1, h.1)
  one_done T U agree (list_fails {v = v} d f g) (visits {v = w} d' f' a') = let h = one_result T U agree d d' in let q : v ≡ w = cc in cc
  one_done T U agree (visits d f a) (list_stops d') = let h = one_result T U agree d d' in cc
  one_done T U agree (visits {v = v} d f a) (list_fails {v = w} d' f' g') = let h = one_result T U agree d d' in let q : v ≡ w = cc in cc
  one_done T U agree (visits {c = c} {x = x} {b = b} {v = v} {vs = vs} d f a) (visits {s'' = t} {v = w} {vs = ws} {o = p} d' f' a') =
      let h = one_result T U agree d d' in
      let q : v ≡ w = cc in
      let k : vs ≡ ws = cc in
      one_visit T U agree a (moved (λ us i. Visits U c x us b i p t) k h.1 a')
  one_done T U agree (span_stops d) (span_stops d') = let h = one_list T U agree d d' in (cc, h.1)
  one_done T U agree (span_stops d) (span_fails d' f' g') = let h = one_list T U agree d d' in cc
  one_done T U agree (span_stops d) (counts d' f' a') = let h = one_list T U agree d d' in cc
  one_done T U agree (span_fails d f g) (span_stops d') = let h = one_list T U agree d d' in cc
  one_done T U agree (span_fails {c = c} {s' = i} {v = v} {w = w} {code = x} d f g) (span_fails {s' = j} {v = v'} {w = w'} {code = y} d' f' g') =
      let h = one_list T U agree d d' in
      let q : v ≡ v' = cc in
      let k : w ≡ w' = cc in
      let m : x ≡ y = cc in
      (one_refusal c i j g g' m h.1, h.1)
  one_done T U agree (span_fails {v = v} {w = w} d f g) (counts {v = v'} {w = w'} d' f' a') = let h = one_list T U agree d d' in let q : v ≡ v' = cc in let k : w ≡ w' = cc in cc
  one_done T U agree (counts d f a) (span_stops d') = let h = one_list T U agree d d' in cc
  one_done T U agree (counts {v = v} {w = w} d f a) (span_fails {v = v'} {w = w'} d' f' g') = let h = one_list T U agree d d' in let q : v ≡ v' = cc in let k : w ≡ w' = cc in cc
  one_done T U agree (counts {c = c} {x = x} {b = b} {v = v} {w = w} {span = span} d f a) (counts {s'' = t} {v = v'} {w = w'} {span = other} {o = p} d' f' a') =
      let h = one_list T U agree d d' in
      let q : v ≡ v' = cc in
      let k : w ≡ w' = cc in
      let l : span ≡ other = cc in
      one_count T U agree a (moved (λ y i. Counts U c x y y.low b i p t) l h.1 a')
  one_done T U agree (loops d) (loops d') = one_loop T U agree d d'
  one_done T U agree breaks_out breaks_out = (refl, refl)
  one_done T U agree continues_on continues_on = (refl, refl)
  one_done T U agree (unprepared d) (unprepared d') = let h = one_preparation T U agree d d' in (cc, h.1)
  one_done T U agree (unprepared d) (tries d' a' g') = let h = one_preparation T U agree d d' in cc
  one_done T U agree (tries d a g) (unprepared d') = let h = one_preparation T U agree d d' in cc
  one_done T U agree (tries {c = c} {b = b} {s'' = i} {all = all} {o = o} d a g) (tries {s'' = u} {s3 = t} {all = other} {o = p} {r = r} d' a' g') =
      let h = one_preparation T U agree d d' in
      let q : all ≡ other = cc in
      let k = one_block T U agree a (at_state (λ j. RunsAll U c b j p u) h.1 a') in
      one_handled T U agree g (subst (λ x. Handles U c x o i r t) (sym q) (moved (λ y j. Handles U c other y j r t) k.0 k.1 g'))
  one_done T U agree (finally_skipped d f) (finally_skipped d' f') = one_block T U agree d d'
  one_done T U agree (finally_skipped d f) (finally_runs d' f' a' g') = let h = one_block T U agree d d' in let q = sym f ∙ ap runs_finally h.0 in cc
  one_done T U agree (finally_runs d f a g) (finally_skipped d' f') = let h = one_block T U agree d d' in let q = sym f' ∙ ap runs_finally (sym h.0) in cc
  one_done T U agree (finally_runs {c = c} {f = b} {p = o} d f a g) (finally_runs {s'' = t} {o = i} {p = p} d' f' a' g') =
      let h = one_block T U agree d d' in
      let k = one_block T U agree a (at_state (λ x. RunsAll U c b x p t) h.1 a') in
      (sym g ∙ ap (λ x. after_finally x o) h.0 ∙ ap (after_finally i) k.0 ∙ g', k.1)

  pub one_block : (T U : Telling) (agree : Agree T U) {c : Context} {b : Block} {s s' t : State} {o p : Result Flow Stop} → RunsAll T c b s o s' → RunsAll U c b s p t → Same o s' p t
  one_block T U agree ends ends = (refl, refl)
  one_block T U agree (leaves d f) (leaves d' f') = one_run T U agree d d'
  one_block T U agree (leaves d f) (proceeds d' a') = let h = one_run T U agree d d' in let q = sym f ∙ ap goes_on h.0 in cc
  one_block T U agree (proceeds d a) (leaves d' f') = let h = one_run T U agree d d' in let q = sym f' ∙ ap goes_on (sym h.0) in cc
  one_block T U agree (proceeds {c = c} {b = b} d a) (proceeds {s'' = t} {o = p} d' a') = let h = one_run T U agree d d' in one_block T U agree a (at_state (λ x. RunsAll U c b x p t) h.1 a')

  one_selection : (T U : Telling) (agree : Agree T U) {c : Context} {arms : Arms} {s s' t : State} {o p : Result Flow Stop} → Selects T c arms s o s' → Selects U c arms s p t → Same o s' p t
  one_selection T U agree none_selected none_selected = (refl, refl)
  one_selection T U agree (else_runs d) (else_runs d') = one_block T U agree d d'
  one_selection T U agree (test_stops d) (test_stops d') = let h = one_result T U agree d d' in (cc, h.1)
  one_selection T U agree (test_stops d) (arm_runs d' f' a') = let h = one_result T U agree d d' in cc
  one_selection T U agree (test_stops d) (arm_passed d' f' a') = let h = one_result T U agree d d' in cc
  one_selection T U agree (arm_runs d f a) (test_stops d') = let h = one_result T U agree d d' in cc
  one_selection T U agree (arm_runs {c = c} {b = b} d f a) (arm_runs {s'' = t} {o = p} d' f' a') = let h = one_result T U agree d d' in one_block T U agree a (at_state (λ x. RunsAll U c b x p t) h.1 a')
  one_selection T U agree (arm_runs {v = v} d f a) (arm_passed {v = w} d' f' a') = let h = one_result T U agree d d' in let q : v ≡ w = cc in cc
  one_selection T U agree (arm_passed d f a) (test_stops d') = let h = one_result T U agree d d' in cc
  one_selection T U agree (arm_passed {v = v} d f a) (arm_runs {v = w} d' f' a') = let h = one_result T U agree d d' in let q : v ≡ w = cc in cc
  one_selection T U agree (arm_passed {c = c} {arms = arms} d f a) (arm_passed {s'' = t} {o = p} d' f' a') = let h = one_result T U agree d d' in one_selection T U agree a (at_state (λ x. Selects U c arms x p t) h.1 a')

  one_turn : (T U : Telling) (agree : Agree T U) {c : Context} {own : Option (List ℕ)} {bindings : List Binding} {b : Block} {s s' t : State} {o p : Option (Result Flow Stop)} → Turns T c own bindings b s o s' → Turns U c own bindings b s p t → Same o s' p t
  one_turn T U agree (turn_spent z) (turn_spent z') = (refl, refl)
  one_turn T U agree (turn_spent z) (turns z' e' a' g') = absurd (omega arith)
  one_turn T U agree (turns z e a g) (turn_spent z') = absurd (omega arith)
  one_turn T U agree (turns {c = c} {own = own} {b = b} z e a g) (turns {s'' = t} {o = p} z' e' a' g') =
      let h = one_block T U agree a (at_state (λ x. RunsAll U c b x p t) (sym e ∙ e') a') in
      (sym g ∙ ap (after_turn own) h.0 ∙ g', h.1)

  one_loop : (T U : Telling) (agree : Agree T U) {c : Context} {own : Option (List ℕ)} {e : Expr} {b : Block} {s s' t : State} {o p : Result Flow Stop} → Loops T c own e b s o s' → Loops U c own e b s p t → Same o s' p t
  one_loop T U agree (loop_stops d) (loop_stops d') = let h = one_result T U agree d d' in (cc, h.1)
  one_loop T U agree (loop_stops d) (loop_ends d' f') = let h = one_result T U agree d d' in cc
  one_loop T U agree (loop_stops d) (loop_left d' f' a') = let h = one_result T U agree d d' in cc
  one_loop T U agree (loop_stops d) (loop_then d' f' a' m') = let h = one_result T U agree d d' in cc
  one_loop T U agree (loop_ends d f) (loop_stops d') = let h = one_result T U agree d d' in cc
  one_loop T U agree (loop_ends d f) (loop_ends d' f') = let h = one_result T U agree d d' in (refl, h.1)
  one_loop T U agree (loop_ends {v = v} d f) (loop_left {v = w} d' f' a') = let h = one_result T U agree d d' in let q : v ≡ w = cc in cc
  one_loop T U agree (loop_ends {v = v} d f) (loop_then {v = w} d' f' a' m') = let h = one_result T U agree d d' in let q : v ≡ w = cc in cc
  one_loop T U agree (loop_left d f a) (loop_stops d') = let h = one_result T U agree d d' in cc
  one_loop T U agree (loop_left {v = v} d f a) (loop_ends {v = w} d' f') = let h = one_result T U agree d d' in let q : v ≡ w = cc in cc
  one_loop T U agree (loop_left {c = c} {own = own} {b = b} {o = o} d f a) (loop_left {s'' = t} {o = p} d' f' a') =
      let h = one_result T U agree d d' in
      let k = one_turn T U agree a (at_state (λ x. Turns U c own [] b x (Some p) t) h.1 a') in
      let q : o ≡ p = cc in
      (q, k.1)
  one_loop T U agree (loop_left {c = c} {own = own} {b = b} d f a) (loop_then {s'' = t} d' f' a' m') =
      let h = one_result T U agree d d' in
      let k = one_turn T U agree a (at_state (λ x. Turns U c own [] b x None t) h.1 a') in
      cc
  one_loop T U agree (loop_then d f a m) (loop_stops d') = let h = one_result T U agree d d' in cc
  one_loop T U agree (loop_then {v = v} d f a m) (loop_ends {v = w} d' f') = let h = one_result T U agree d d' in let q : v ≡ w = cc in cc
  one_loop T U agree (loop_then {c = c} {own = own} {b = b} d f a m) (loop_left {s'' = t} {o = p} d' f' a') =
      let h = one_result T U agree d d' in
      let k = one_turn T U agree a (at_state (λ x. Turns U c own [] b x (Some p) t) h.1 a') in
      cc
  one_loop T U agree (loop_then {c = c} {own = own} {e = e} {b = b} d f a m) (loop_then {s'' = u} {s3 = t} {o = p} d' f' a' m') =
      let h = one_result T U agree d d' in
      let k = one_turn T U agree a (at_state (λ x. Turns U c own [] b x None u) h.1 a') in
      one_loop T U agree m (at_state (λ x. Loops U c own e b x p t) k.1 m')

  one_visit : (T U : Telling) (agree : Agree T U) {c : Context} {x : List ℕ} {vs : List Tree} {b : Block} {s s' t : State} {o p : Result Flow Stop} → Visits T c x vs b s o s' → Visits U c x vs b s p t → Same o s' p t
  one_visit T U agree all_visited all_visited = (refl, refl)
  one_visit T U agree (visit_left {o = o} a) (visit_left {o = p} a') = let k = one_turn T U agree a a' in let q : o ≡ p = cc in (q, k.1)
  one_visit T U agree (visit_left a) (visit_then a' m') = let k = one_turn T U agree a a' in cc
  one_visit T U agree (visit_then a m) (visit_left a') = let k = one_turn T U agree a a' in cc
  one_visit T U agree (visit_then {c = c} {x = x} {vs = vs} {b = b} a m) (visit_then {s'' = t} {o = p} a' m') = let k = one_turn T U agree a a' in one_visit T U agree m (at_state (λ i. Visits U c x vs b i p t) k.1 m')

  one_count : (T U : Telling) (agree : Agree T U) {c : Context} {x : List ℕ} {span : Span} {n : ℤ} {b : Block} {s s' t : State} {o p : Result Flow Stop} → Counts T c x span n b s o s' → Counts U c x span n b s p t → Same o s' p t
  one_count T U agree (all_counted f) (all_counted f') = (refl, refl)
  one_count T U agree (all_counted f) (count_left f' a') = cc
  one_count T U agree (all_counted f) (count_then f' a' m') = cc
  one_count T U agree (count_left f a) (all_counted f') = cc
  one_count T U agree (count_left {o = o} f a) (count_left {o = p} f' a') = let k = one_turn T U agree a a' in let q : o ≡ p = cc in (q, k.1)
  one_count T U agree (count_left f a) (count_then f' a' m') = let k = one_turn T U agree a a' in cc
  one_count T U agree (count_then f a m) (all_counted f') = cc
  one_count T U agree (count_then f a m) (count_left f' a') = let k = one_turn T U agree a a' in cc
  one_count T U agree (count_then {c = c} {x = x} {span = span} {n = n} {b = b} f a m) (count_then {s'' = t} {o = p} f' a' m') = let k = one_turn T U agree a a' in one_count T U agree m (at_state (λ i. Counts U c x span (n +ℤ pos 1) b i p t) k.1 m')

  one_handled : (T U : Telling) (agree : Agree T U) {c : Context} {all : List Guarded} {o : Result Flow Stop} {s s' t : State} {r q : Result Flow Stop} → Handles T c all o s r s' → Handles U c all o s q t → Same r s' q t
  one_handled T U agree nothing_raised nothing_raised = (refl, refl)
  one_handled T U agree ticks_out ticks_out = (refl, refl)
  one_handled T U agree (handles {c = c} {raise = raise} {s = s} f d) (handles {s' = t} {o = p} f' d') = one_taken T U agree d (subst (λ x. Takes U c x raise s p t) (sym (sym f ∙ f')) d')

  one_taken : (T U : Telling) (agree : Agree T U) {c : Context} {g : Option Guarded} {raise : Raise} {s s' t : State} {o p : Result Flow Stop} → Takes T c g raise s o s' → Takes U c g raise s p t → Same o s' p t
  one_taken T U agree untaken untaken = (refl, refl)
  one_taken T U agree (untold {c = c} {s = s} f) (untold f') = (cc, refl)
  one_taken T U agree (untold f) (takes f' e' d') = cc
  one_taken T U agree (takes f e d) (untold f') = cc
  one_taken T U agree (takes {c = c} {g = g} {bindings = bs} {s = s} f e d) (takes {bindings = bs'} {s'' = t} {o = p} f' e' d') =
      let q : bs ≡ bs' = cc in
      one_block T U agree d (at_state (λ x. RunsAll U c g.body x p t) (sym e ∙ ap (λ x. bound x s) q ∙ e') d')

-- Assignments to a place of the list or string in a variable.
use Rattle.std.proofs.Common.{◌≡◌, ℕ, ◌<◌, ◌-◌, ℤ, List, [], ◌∷◌, Option, Result, Ok, Err, refl, sym, ap, subst, ◌∙◌}
use Rattle.moo_value.specs.declared.error_code.ErrorCode.TheVariants.{VariableNotFound}
use Rattle.moo_value.specs.Tree.{Tree, integer}
use Rattle.moo_value.specs.Compare.{folded}
use Rattle.moo_syntax_ast.specs.Tree.{Expr, Stmt, variable, assign, performs}
use Rattle.moo_builtin_operator.specs.Assignment.{with_index_of}
use Rattle.moo_eval_frame.specs.Outcome.{Stop, Failure, Flow, stops, next, or_error, answers, settled}
use Rattle.moo_eval_frame.specs.State.{Context, within}
use Rattle.moo_eval_slot.specs.Bindings.{bind, with_variable}
use Rattle.moo_eval_access.specs.Target.{Step, rebuilt}
use Rattle.moo_eval_access.specs.State.{State, ticked, bound, trace}
use Rattle.moo_builtin.specs.Telling.{Telling, Faults}
use Rattle.moo_eval_integer.specs.Integers.{with_ticks, GivesValue}
use Rattle.moo_eval_integer.specs.Puts.{PutsInteger, PutsInner}
use Rattle.moo_eval_task.specs.Element.{sets_place, sets_inner, IsPut}
use Rattle.moo_eval_semantics.specs.Meaning.{Evaluates, Computes, Does, begins, applies, no_more, element_stops, element_then, assign_is, target_ends, value_stops, assigns, locates, finds, inside, step_ends, enters, unread, spot_ends, steps_in, no_store, stores, puts_variable, evaluates}
use Rattle.moo_eval_task.proofs.Direct.{assigned, performed}
use Rattle.moo_eval_task.proofs.Exits.{same_state}

-- the container with the value at the place
pub put : {T : Telling} {c : Context} {name : List ℕ} {i e : Expr} {s s1 s2 t : State} {x y v w : Tree} → answers (or_error (s.variables (folded name)) VariableNotFound) ≡ Ok x → Evaluates T (within c (x ∷ [])) i s (Ok y) s1 → Evaluates T c e s1 (Ok v) s2 → with_index_of x y v ≡ Ok w → bound (bind name w ∷ []) s2 ≡ t → IsPut T c name i e s t
put {v = v} held d g made sets = record { value = v; computes = applies no_more no_more (assign_is (assigns (locates (finds no_more refl) (enters (steps_in held (element_then d no_more refl)) inside)) g (stores (ap answers made) (puts_variable sets)) refl)) }

-- an integer at a place that an integer gives
pub integer_put : {name : List ℕ} {i e : Expr} {n m : ℕ} {after : List ℕ → Option Tree} {programmer : ℤ} (c : Context) (s : State) → s.programmer ≡ programmer → PutsInteger s.variables n name i e m after → IsPut Faults c name i e (with_ticks n s) (record { ticks = m; world = s.world; variables = after; programmer = programmer; notices = s.notices })
integer_put c s same h = put (ap (λ o. answers (or_error o VariableNotFound)) h.held) (h.placed (within c (h.container ∷ [])) s refl) (h.valued c s refl) h.made (same_state (sym h.sets) same)

-- an integer at a place that an integer gives, within an element of the variable's container
pub inner_put : {name : List ℕ} {i j e : Expr} {n m : ℕ} {after : List ℕ → Option Tree} {programmer : ℤ} (c : Context) (s : State) → s.programmer ≡ programmer → 0 < n → PutsInner s.variables (n - 1) name i j e m after → Does Faults c (performs (sets_inner name i j e)) (with_ticks n s) (Ok next) (record { ticks = m; world = s.world; variables = after; programmer = programmer; notices = s.notices })
inner_put c s same z h =
    let first : Step = record { container = h.container; places = integer h.first ∷ [] } in
    let outer = steps_in (ap (λ o. answers (or_error o VariableNotFound)) h.held) (element_then (h.placed (within c (h.container ∷ [])) s refl) no_more refl) in
    let inner = steps_in (ap answers h.there) (element_then (h.placed_inside (within c (h.element ∷ [])) s refl) no_more refl) in
    let made = ap (λ r. answers (rebuilt (first ∷ []) r)) h.made_inside ∙ ap answers h.made in
    performed z (applies no_more no_more (assign_is (assigns (locates (finds no_more refl) (enters outer (enters inner inside))) (h.valued c s refl) (stores made (puts_variable (same_state (sym h.sets) same))) refl)))

-- from an equal state
pub does_from : {T : Telling} {c : Context} {e : Stmt} {s s' t : State} {o : Result Flow Stop} → s ≡ s' → Does T c e s o t → Does T c e s' o t
does_from {T = T} {c = c} {e = e} {t = t} {o = o} h = subst (λ x. Does T c e x o t) h

-- a variable is set to a value that is given at once
pub value_set : {name : List ℕ} {e : Expr} {n m : ℕ} {v : Tree} {after : List ℕ → Option Tree} {programmer : ℤ} (c : Context) (s : State) → s.programmer ≡ programmer → 0 < n → GivesValue s.variables (n - 1) e v m → after ≡ with_variable s.variables (bind name v) → Does Faults c (performs (assign (variable name) e)) (with_ticks n s) (Ok next) (record { ticks = m; world = s.world; variables = after; programmer = programmer; notices = s.notices })
value_set c s same z g sets = performed z (assigned (g c s refl) (same_state (sym sets) same))

-- the container takes no such value at the place
pub not_put : {T : Telling} {c : Context} {name : List ℕ} {i e : Expr} {s s1 s2 : State} {x y v : Tree} {failure : Failure} → answers (or_error (s.variables (folded name)) VariableNotFound) ≡ Ok x → Evaluates T (within c (x ∷ [])) i s (Ok y) s1 → Evaluates T c e s1 (Ok v) s2 → answers (with_index_of x y v) ≡ Err failure → Computes T c (sets_place name i e) s (Err failure) s2
not_put held d g made = applies no_more no_more (assign_is (assigns (locates (finds no_more refl) (enters (steps_in held (element_then d no_more refl)) inside)) g (no_store made) refl))

-- the variable is not set
pub unheld : {T : Telling} {c : Context} {name : List ℕ} {i e : Expr} {s : State} {failure : Failure} → answers (or_error (s.variables (folded name)) VariableNotFound) ≡ Err failure → Computes T c (sets_place name i e) s (Err failure) s
unheld held = applies no_more no_more (assign_is (target_ends (locates (finds no_more refl) (step_ends (unread held)))))

-- the place stops
pub place_ends : {T : Telling} {c : Context} {name : List ℕ} {i e : Expr} {s s' : State} {x : Tree} {stop : Stop} → answers (or_error (s.variables (folded name)) VariableNotFound) ≡ Ok x → Evaluates T (within c (x ∷ [])) i s (Err stop) s' → Computes T c (sets_place name i e) s (Err (stops stop)) s'
place_ends held d = applies no_more no_more (assign_is (target_ends (locates (finds no_more refl) (step_ends (spot_ends held (element_stops d))))))

-- the value stops
pub value_ends : {T : Telling} {c : Context} {name : List ℕ} {i e : Expr} {s s1 s' : State} {x y : Tree} {stop : Stop} → answers (or_error (s.variables (folded name)) VariableNotFound) ≡ Ok x → Evaluates T (within c (x ∷ [])) i s (Ok y) s1 → Evaluates T c e s1 (Err stop) s' → Computes T c (sets_place name i e) s (Err (stops stop)) s'
value_ends held d g = applies no_more no_more (assign_is (value_stops (locates (finds no_more refl) (enters (steps_in held (element_then d no_more refl)) inside)) g))

-- as a statement, after a tick for the assignment
pub put_alone : {T : Telling} {c : Context} {name : List ℕ} {i e : Expr} {s t : State} → 0 < s.ticks → IsPut T c name i e (ticked s) t → Does T c (performs (sets_place name i e)) s (Ok next) t
put_alone z h = performed z h.computes

pub passed_over : {T : Telling} {c : Context} {e : Expr} {s s' : State} {o : Result Tree Failure} {v : Tree} → 0 < s.ticks → Computes T c e (ticked s) o s' → settled c.frame.d (trace c s') o ≡ Ok v → Does T c (performs e) s (Ok next) s'
passed_over z d f = evaluates (begins z d f) refl

pub stopped : {T : Telling} {c : Context} {e : Expr} {s s' : State} {o : Result Tree Failure} {stop : Stop} → 0 < s.ticks → Computes T c e (ticked s) o s' → settled c.frame.d (trace c s') o ≡ Err stop → Does T c (performs e) s (Err stop) s'
stopped z d f = evaluates (begins z d f) refl

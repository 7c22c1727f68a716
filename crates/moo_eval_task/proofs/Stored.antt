-- Values that are stored in properties.
use Rattle.std.proofs.Common.{◌≡◌, ℕ, ℤ, List, [], ◌∷◌, Option, Result, Ok, Err, IfErr, OnOk, IsTrue, is_ok, refl, sym, ap, subst, ◌∙◌}
use Rattle.std.proofs.lemmas.Bool.{false≢true}
use Rattle.moo_value.specs.declared.error_code.ErrorCode.{ErrorCode}
use Rattle.moo_value.specs.Tree.{Tree}
use Rattle.moo_syntax_ast.specs.Tree.{Expr, index, property, assign}
use Rattle.moo_builtin_operator.specs.Assignment.{with_index_of}
use Rattle.moo_world_table.specs.World.{World}
use Rattle.moo_eval_frame.specs.declared.notice.Notice.{Notice}
use Rattle.moo_eval_frame.specs.declared.outcome.Failure as code_failure
use Rattle.moo_eval_frame.specs.Outcome.{Stop, Failure, fails, stops, answers}
use Rattle.moo_eval_frame.specs.Seen.{seen_by, seen_done, failure_of, HadMemoryIn, IsKnownFailure}
use Rattle.moo_eval_frame.specs.State.{Context, within}
use Rattle.moo_eval_access.specs.Calls.{read_property, write_property, write_result, IsSetAlike}
use Rattle.moo_eval_access.specs.State.{State}
use Rattle.moo_eval_access.specs.Target.{Step, owned, rebuilt}
use Rattle.moo_eval_access.proofs.Written.{kept_after_drop}
use Rattle.moo_builtin.specs.Telling.{Telling}
use Rattle.moo_eval_semantics.specs.Operands.{with_value}
use Rattle.moo_eval_semantics.specs.Meaning.{Evaluates, Computes, Stores, applies, no_more, element_stops, element_then, assign_is, target_ends, value_stops, assigns, root_ends, locates, parts_end, finds, inside, step_ends, enters, unread, spot_ends, steps_in, no_store, stores}
use Rattle.moo_eval_task.proofs.Exits.{property_put}
use Rattle.moo_eval_task.proofs.Properties as property

-- the value of an assignment that memory sufficed for, by whether it was stored
pub known_put : {T : Telling} {c : Context} {e : Expr} {s t : State} (v : Tree) (r : Result (Unit {0}) code_failure.Failure) → (IsKnownFailure r → Computes T c e s (with_value v (seen_done r)) t) → OnOk r ((v : Tree) × Computes T c e s (Ok v) t)
known_put v (Ok done) h = (v, h tt)
known_put v (Err failure) h = tt

pub known_refused : {T : Telling} {c : Context} {e : Expr} {s t : State} (v : Tree) (r : Result (Unit {0}) code_failure.Failure) → (IsKnownFailure r → Computes T c e s (with_value v (seen_done r)) t) → IfErr r (λ failure. HadMemoryIn failure → Computes T c e s (Err (failure_of failure)) t)
known_refused v (Ok done) h = tt
known_refused v (Err failure) h = λ k. h k

-- the worlds are equal if an error comes and memory sufficed for it
pub known_kept : (w w' : World) (r : Result (Unit {0}) code_failure.Failure) → IsKnownFailure r → IfErr r (λ failure. HadMemoryIn failure → w' ≡ w) → IfErr r (λ failure. w' ≡ w)
known_kept w w' (Ok done) k h = tt
known_kept w w' (Err failure) k h = h k

-- a property is set to what the containers are rebuilt to, after its value was dropped
pub whole_stored : {T : Telling} {c : Context} {n : ℕ} {old mid new : World} {f : List ℕ → Option Tree} {p : ℤ} {ns : List Notice} {base name v : Tree} {steps : List Step} (whole : Tree) (r : Result (Unit {0}) code_failure.Failure) → IsSetAlike old mid p base name → answers (rebuilt steps (Ok v)) ≡ Ok whole → answers (write_property mid p base name whole) ≡ seen_by (λ _. new) r → IfErr r (λ failure. new ≡ mid) → IsKnownFailure r →
    Stores T c (owned base name) steps v (record { ticks = n; world = old; variables = f; programmer = p; notices = ns }) (seen_done r) (record { ticks = n; world = new; variables = f; programmer = p; notices = ns })
whole_stored {old = old} {new = new} whole r alike made e kept k = stores made (property_put r (ap answers (sym (alike.sets whole)) ∙ e) (known_kept old new r k (kept_after_drop alike new whole r e kept)))

-- what is taken is rebuilt
pub taken_rebuilt : {A : Type 0} (r : Result Tree ErrorCode) {failure : Failure} → IsTrue (is_ok r) → answers r ≡ Err failure → A
taken_rebuilt (Ok w) {failure = failure} taken e = let q : ◌≡◌ {A = Result Tree Failure} (Ok w) (Err failure) = e in absurd cc
taken_rebuilt (Err code) taken e = absurd (false≢true taken)

-- an element of a property is set, if the container takes it
pub part_stored : {T : Telling} {c : Context} {n : ℕ} {w w' : World} {f : List ℕ → Option Tree} {p : ℤ} {ns : List Notice} {base name x i v : Tree} (made : Result Tree ErrorCode) (r : Result (Unit {0}) code_failure.Failure) → with_index_of x i v ≡ made → answers (write_result w p base name made) ≡ seen_by (λ _. w') r → IfErr r (λ failure. HadMemoryIn failure → w' ≡ w) → IsKnownFailure r →
    Stores T c (owned base name) (record { container = x; places = i ∷ [] } ∷ []) v (record { ticks = n; world = w; variables = f; programmer = p; notices = ns }) (seen_done r) (record { ticks = n; world = w'; variables = f; programmer = p; notices = ns })
part_stored {w = w} {w' = w'} (Ok u) r is e kept k = stores (ap answers is) (property_put r e (known_kept w w' r k kept))
part_stored {w' = w'} (Err code) (Ok done) is e kept k = let q : ◌≡◌ {A = Result World Failure} (Err (fails code)) (Ok w') = e in absurd cc
part_stored {T = T} {c = c} {n = n} {w = w} {f = f} {p = p} {ns = ns} {base = base} {name = name} {x = x} {i = i} {v = v} (Err code) (Err failure) is e kept k =
    let q : ◌≡◌ {A = Result World Failure} (Err (fails code)) (Err (failure_of failure)) = e in
    let same : fails code ≡ failure_of failure = cc in
    subst (λ u. Stores T c (owned base name) (record { container = x; places = i ∷ [] } ∷ []) v (record { ticks = n; world = w; variables = f; programmer = p; notices = ns }) (Err (failure_of failure)) (record { ticks = n; world = u; variables = f; programmer = p; notices = ns })) (sym (kept k)) (no_store (ap answers is ∙ ap Err same))

module _ {T : Telling} {c : Context} {b n i e : Expr} {s s1 : State} where
  -- the object stops
  pub object_stops_part : {stop : Stop} → Evaluates T c b s (Err stop) s1 → Computes T c (assign (index (property b n) i) e) s (Err (stops stop)) s1
  object_stops_part d = applies no_more no_more (assign_is (target_ends (root_ends (parts_end (element_stops d)))))

  -- the name stops
  pub name_stops_part : {s2 : State} {x : Tree} {stop : Stop} → Evaluates T c b s (Ok x) s1 → Evaluates T c n s1 (Err stop) s2 → Computes T c (assign (index (property b n) i) e) s (Err (stops stop)) s2
  name_stops_part d g = applies no_more no_more (assign_is (target_ends (root_ends (parts_end (element_then d (element_stops g) refl)))))

  module _ {s2 : State} {x y : Tree} (d : Evaluates T c b s (Ok x) s1) (g : Evaluates T c n s1 (Ok y) s2) where
    -- the property isn't read
    pub unread_part : {failure : Failure} → answers (read_property s2.world s2.programmer x y) ≡ Err failure → Computes T c (assign (index (property b n) i) e) s (Err failure) s2
    unread_part held = applies no_more no_more (assign_is (target_ends (locates (finds (element_then d (element_then g no_more refl) refl) refl) (step_ends (unread held)))))

    -- the place stops
    pub place_stops_part : {s3 : State} {u : Tree} {stop : Stop} → answers (read_property s2.world s2.programmer x y) ≡ Ok u → Evaluates T (within c (u ∷ [])) i s2 (Err stop) s3 → Computes T c (assign (index (property b n) i) e) s (Err (stops stop)) s3
    place_stops_part held h = applies no_more no_more (assign_is (target_ends (locates (finds (element_then d (element_then g no_more refl) refl) refl) (step_ends (spot_ends held (element_stops h))))))

    -- the value stops
    pub value_stops_part : {s3 s4 : State} {u j : Tree} {stop : Stop} → answers (read_property s2.world s2.programmer x y) ≡ Ok u → Evaluates T (within c (u ∷ [])) i s2 (Ok j) s3 → Evaluates T c e s3 (Err stop) s4 → Computes T c (assign (index (property b n) i) e) s (Err (stops stop)) s4
    value_stops_part held h k = applies no_more no_more (assign_is (value_stops (locates (finds (element_then d (element_then g no_more refl) refl) refl) (enters (steps_in held (element_then h no_more refl)) inside)) k))

    -- the element is set, or is not
    pub part_put : {s3 s4 t : State} {u j v : Tree} {o : Result (Unit {0}) Failure} → answers (read_property s2.world s2.programmer x y) ≡ Ok u → Evaluates T (within c (u ∷ [])) i s2 (Ok j) s3 → Evaluates T c e s3 (Ok v) s4 → Stores T c (owned x y) (record { container = u; places = j ∷ [] } ∷ []) v s4 o t → Computes T c (assign (index (property b n) i) e) s (with_value v o) t
    part_put held h k q = applies no_more no_more (assign_is (assigns (locates (finds (element_then d (element_then g no_more refl) refl) refl) (enters (steps_in held (element_then h no_more refl)) inside)) k q refl))

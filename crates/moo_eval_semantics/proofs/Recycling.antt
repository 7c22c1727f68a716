-- What `recycle` answers and leaves.
use Rattle.std.proofs.Common.{◌≡◌, ℕ, zero, suc, ◌<◌, ℤ, pos, negsuc, List, [], ◌∷◌, ◌++◌, codes, Option, Some, None, is_some, option_map, Ok, if◌then◌else◌, set, length, refl, sym, ap, subst, ◌∙◌, append-nil, append_assoc, arith}
use Rattle.std.proofs.lemmas.List.{get_or-map, get_or-set_same, length-set}
use Rattle.moo_value.specs.declared.error_code.ErrorCode.{ErrorCode}
use Rattle.moo_value.specs.Tree.{Tree, integer, object}
use Rattle.moo_world_object.specs.BuiltIn.{built_in_of}
use Rattle.moo_world_object.specs.Objects.{Object}
use Rattle.moo_syntax_function.specs.declared.function.Function.TheVariants as function
use Rattle.moo_world_table.specs.World.{World, object_of}
use Rattle.moo_world_table.specs.Edits.{with_named}
use Rattle.moo_world_table.specs.Recycling.{without_cells_of, after_recycle}
use Rattle.moo_world_table.proofs.Changing.{valid_within}
use Rattle.moo_world.specs.Calls.{number_of, place_of, move_raises, world_move}
use Rattle.moo_world.specs.EditCalls.{set_raises, world_set}
use Rattle.moo_world.specs.RecycleCalls.{recycle_raises, world_recycle}
use Rattle.moo_world.specs.VerbCalls.{world_with_object}
use Rattle.moo_world.specs.Rights.{may_own}
use Rattle.moo_eval_frame.specs.declared.notice.Notice.{Notice}
use Rattle.moo_eval_frame.specs.declared.notice.Notice.TheVariants.{Recycle}
use Rattle.moo_eval_frame.specs.State.{Context}
use Rattle.moo_eval_access.specs.State.{State}
use Rattle.moo_builtin.specs.Telling.{Telling}
use Rattle.moo_eval_semantics.specs.Later.{Later}
use Rattle.moo_eval_semantics.specs.declared.stage.Stage.{Stage}
use Rattle.moo_eval_semantics.specs.declared.stage.Stage.TheVariants as stage
use Rattle.moo_eval_semantics.specs.Progressing.{Calling, calling, Progress}
use Rattle.moo_eval_semantics.specs.Objects.{first_inside}
use Rattle.moo_eval_semantics.specs.Quota.{quota, where_allowed, set_if_there, with_quota}
use Rattle.moo_eval_semantics.specs.Recycling.{recycle_calls, recycling, owner_of, taken_away, moved_out, emptied}
use Rattle.moo_eval_semantics.specs.Stages.{resumed}
use Rattle.moo_eval_semantics.specs.VerbCalls.{Starts, refused, starts}
use Rattle.moo_eval_semantics.specs.Notices.{IsBegunBy}
use Rattle.moo_eval_semantics.specs.HookLaws.{IsToldLast}
use Rattle.moo_eval_semantics.specs.Meaning.{Proceeds}
use Rattle.moo_eval_semantics.proofs.Following.{either, GoesOn, GoesOnFrom, raised_on, hook_on, begins_on, answer_of}

numbers_nothing : (objects : List (Option Object)) (n : ℕ) → object_of objects n ≡ None → number_of objects (pos n) ≡ None
numbers_nothing objects n e = ap (λ (x : Option Object). if is_some x then Some n else None) e

nothing_there : (objects : List (Option Object)) (n : ℕ) → number_of objects (pos n) ≡ None → object_of objects n ≡ None
nothing_there objects n h = over (object_of objects n) h
  where
    over : (x : Option Object) → (if is_some x then Some n else None) ≡ None → x ≡ None
    over None e = refl
    over (Some y) e = cc

-- at its number there is nothing
taken_out : (w : World) (x : ℕ) → x < length w.objects → object_of (after_recycle w x).objects x ≡ None
taken_out w x within =
    let long = length-set w.objects x None in
    get_or-map (without_cells_of x) (set w.objects x None) x None None (omega (arith, long, within)) ∙ ap (without_cells_of x) (get_or-set_same w.objects x None None within)

-- what was recycled is no object
gone : (w : World) (o : ℤ) → recycle_raises (number_of w.objects o) ≡ None → number_of (world_recycle w (number_of w.objects o)).objects o ≡ None
gone w (negsuc n) e = refl
gone w (pos n) e = over (object_of w.objects n) refl e
  where
    over : (x : Option Object) → object_of w.objects n ≡ x → recycle_raises (if is_some x then Some n else None) ≡ None → number_of (world_recycle w (if is_some x then Some n else None)).objects (pos n) ≡ None
    over None is h = cc
    over (Some y) is h = numbers_nothing (after_recycle w n).objects n (taken_out w n (valid_within w.objects n (ap is_some is)))

-- if there is nothing at a number, a change of one object puts nothing there
still_nothing : (objects : List (Option Object)) (x n : ℕ) (f : Object → Object) → object_of objects n ≡ None → object_of (set objects x (option_map f (object_of objects x))) n ≡ None
still_nothing [] x n f e = refl
still_nothing (y ∷ ys) zero zero f e = ap (option_map f) e
still_nothing (y ∷ ys) zero (suc n) f e = e
still_nothing (y ∷ ys) (suc x) zero f e = e
still_nothing (y ∷ ys) (suc x) (suc n) f e = still_nothing ys x n f e

gone_with_object : (w : World) (x : Option ℕ) (f : Object → Object) (o : ℤ) → number_of w.objects o ≡ None → number_of (world_with_object w x f).objects o ≡ None
gone_with_object w None f o e = e
gone_with_object w (Some x) f (negsuc n) e = refl
gone_with_object w (Some x) f (pos n) e = numbers_nothing (world_with_object w (Some x) f).objects n (still_nothing w.objects x n f (nothing_there w.objects n e))

gone_unless : (raises : Option ErrorCode) (after w : World) (o : ℤ) → number_of after.objects o ≡ None → number_of w.objects o ≡ None → number_of (where_allowed raises after w).objects o ≡ None
gone_unless None after w o e h = e
gone_unless (Some code) after w o e h = h

gone_if_set : (w : World) (owner : ℤ) (name : List ℕ) (v : Tree) (o : ℤ) → number_of w.objects o ≡ None → number_of (set_if_there w owner name v).objects o ≡ None
gone_if_set w owner name v o e =
    let x = number_of w.objects owner in
    gone_unless (set_raises w x name v) (world_set w x name v) w o (gone_with_object w x (with_named name v (built_in_of name)) o e) e

-- a quota makes no object
gone_with_quota : (w : World) (owner : ℤ) (q : Option ℤ) (change o : ℤ) → number_of w.objects o ≡ None → number_of (with_quota w owner q change).objects o ≡ None
unfolding with_quota
gone_with_quota w owner None change o e = e
gone_with_quota w owner (Some n) change o e = gone_if_set w owner _ _ o e

still_begun : (old : List Notice) {s u : State} → Later s u → IsBegunBy old s.notices → IsBegunBy old u.notices
still_begun old l h = (h.0 ++ l.added, l.notices ∙ ap (λ (ns : List Notice). ns ++ l.added) h.1 ∙ append_assoc old h.0 l.added)

-- until o is taken away, and then
abbrev IsOfRecycle : ℤ → List Notice → Stage → State → Type 0
IsOfRecycle o old (stage.Emptying x) s = (x ≡ o) × IsBegunBy old s.notices
IsOfRecycle o old (stage.Recycled x) s = (x ≡ o) × IsBegunBy old s.notices × (number_of s.world.objects o ≡ None)
IsOfRecycle o old _ s = ⊥

abbrev IsRecycled : ℤ → List Notice → Tree → State → Type 0
IsRecycled o old v s = (v ≡ integer (pos 0)) × (number_of s.world.objects o ≡ None) × IsToldLast (Recycle o) old s.notices

module _ (o : ℤ) (old : List Notice) where
  calls_on : (k : Calling) (s : State) (w : World) (name : List ℕ) (vs : List Tree) → IsBegunBy old s.notices → GoesOnFrom (IsOfRecycle o old) (IsRecycled o old) s (recycle_calls k w o name vs)
  calls_on k s w name vs h = hook_on (IsOfRecycle o old) (IsRecycled o old) k w (codes "recycle") o name vs (stage.Emptying o) (record s { world = w }) (λ u l. (refl, still_begun old l h))

  recycling_on : (k : Calling) (s : State) (w : World) → IsBegunBy old s.notices → GoesOnFrom (IsOfRecycle o old) (IsRecycled o old) s (recycling k w o)
  unfolding recycling
  recycling_on k s w h = either (GoesOnFrom (IsOfRecycle o old) (IsRecycled o old) s) (may_own w k.programmer o) _ _ (calls_on k s w (codes "recycle") [] h) tt

  taken_on : (s : State) (w : World) → IsBegunBy old s.notices → GoesOnFrom (IsOfRecycle o old) (IsRecycled o old) s (taken_away w o)
  unfolding taken_away
  taken_on s w h =
      raised_on (IsOfRecycle o old) (IsRecycled o old) s w (recycle_raises (number_of w.objects o)) _
      (λ e. (refl, h, gone_with_quota (world_recycle w (number_of w.objects o)) (owner_of w o) (quota (world_recycle w (number_of w.objects o)) (owner_of w o)) (pos 1) o (gone w o e)))

  moved_out_on : (k : Calling) (s : State) (w : World) (inside : ℤ) → IsBegunBy old s.notices → GoesOnFrom (IsOfRecycle o old) (IsRecycled o old) s (moved_out k w o inside)
  unfolding moved_out
  moved_out_on k s w inside h =
      let y = number_of w.objects inside in
      let nowhere = place_of w.objects (negsuc 0) in
      raised_on (IsOfRecycle o old) (IsRecycled o old) s w (move_raises w y nowhere) _ (λ e. calls_on k s (world_move w y nowhere) (codes "exitfunc") (object inside ∷ []) h)

  emptied_on : (k : Calling) (s : State) (w : World) (inside : Option ℤ) → IsBegunBy old s.notices → GoesOnFrom (IsOfRecycle o old) (IsRecycled o old) s (emptied k w o inside)
  emptied_on k s w None h = taken_on s w h
  emptied_on k s w (Some inside) h = moved_out_on k s w inside h

  abbrev NextOn : Context → Stage → Tree → State → Type 0
  NextOn c at v s = GoesOn (IsOfRecycle o old) (IsRecycled o old) (resumed c at v s).0 (resumed c at v s).1

  recycle_next : (c : Context) (at : Stage) (v : Tree) (s : State) → IsOfRecycle o old at s → NextOn c at v s
  recycle_next c (stage.Emptying x) v s h = subst (λ (y : ℤ). NextOn c (stage.Emptying y) v s) (sym h.0) (emptied_on (calling c s) s s.world (first_inside s.world o) h.1)
  recycle_next c (stage.Recycled x) v s h =
      subst (λ (y : ℤ). NextOn c (stage.Recycled y) v s) (sym h.0) (refl, h.2, (h.1.0, ap (λ (ns : List Notice). ns ++ Recycle o ∷ []) h.1.1))
  recycle_next c stage.Passed v s h = absurd h
  recycle_next c (stage.Created x) v s h = absurd h
  recycle_next c (stage.Accepting what to) v s h = absurd h
  recycle_next c (stage.Leaving what to) v s h = absurd h
  recycle_next c stage.Entering v s h = absurd h
  recycle_next c stage.Evaluated v s h = absurd h

recycle_starts : {T : Telling} {c : Context} (o : ℤ) {s s' : State} {p : Progress} → Starts T c function.Recycle (object o ∷ []) s p s' → GoesOn (IsOfRecycle o s.notices) (IsRecycled o s.notices) p s'
recycle_starts o (refused q) = tt
recycle_starts o (starts {c = c} {s = s} q h u) = begins_on (IsOfRecycle o s.notices) (IsRecycled o s.notices) s h u (recycling_on o s.notices (calling c s) s s.world ([], sym (append-nil s.notices)))

pub recycle_leaves : {T : Telling} {c : Context} (o : ℤ) {s s' s'' : State} {p : Progress} {v : Tree} → Starts T c function.Recycle (object o ∷ []) s p s' → Proceeds T c p s' (Ok v) s'' → IsRecycled o s.notices v s''
recycle_leaves {c = c} o {s = s} b d = answer_of (IsOfRecycle o s.notices) (IsRecycled o s.notices) c (recycle_next o s.notices c) d (recycle_starts o b)

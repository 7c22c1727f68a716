-- A function comes nearer to its end from step to step.
use Rattle.std.proofs.Common.{◌≡◌, ℕ, suc, ℤ, pos, ◌≤◌, Bool, true, false, List, [], ◌∷◌, codes, Option, Some, None, Result, Ok, Err, IfOk, if◌then◌else◌, is_some, length, slice_get, refl, ap, subst, arith}
use Rattle.std.specs.Option.{unwrap_or, option_map, option_and_then}
use Rattle.moo_value.specs.declared.error_code.ErrorCode.{ErrorCode}
use Rattle.moo_value.specs.Tree.{Tree, object}
use Rattle.moo_builtin_operator.specs.Truth.{is_true}
use Rattle.moo_world_tree.specs.Forest.{IsForest, below_of, moved as relinked}
use Rattle.moo_world_object.specs.Objects.{Object}
use Rattle.moo_world_table.specs.World.{World, object_of}
use Rattle.moo_world.specs.Calls.{number_of, move_raises, world_move}
use Rattle.moo_world.specs.RecycleCalls.{recycle_raises}
use Rattle.moo_eval_frame.specs.declared.outcome.Failure as code_failure
use Rattle.moo_eval_frame.specs.Outcome.{Failure, fails, stops}
use Rattle.moo_eval_frame.specs.Seen.{IsKnownFailure}
use Rattle.moo_eval_access.specs.Entering.{Entered}
use Rattle.moo_eval_semantics.specs.declared.stage.Stage.{Stage}
use Rattle.moo_eval_semantics.specs.declared.stage.Stage.TheVariants as stage
use Rattle.moo_eval_hook.specs.declared.progress.Progress as code_progress
use Rattle.moo_eval_semantics.specs.Progressing.{Calling, Progress, stage_next, refuses, after_raise, hooked, hook}
use Rattle.moo_eval_semantics.specs.Moving.{is_to_move, moved, may_enter, accepted, has_come, after_leaving}
use Rattle.moo_eval_semantics.specs.Recycling.{recycle_calls, taken_away, moved_out, emptied}
use Rattle.moo_eval_semantics.specs.Stages.{next_progress}
use Rattle.moo_eval_hook.specs.Turns.{count_inside, stage_turns, progress_turns}
use Rattle.moo_eval_hook.specs.SeenByHooks.{progress_of, seen_progress}
use Rattle.moo_eval_hook.proofs.Fewer.{fewer_inside}

abbrev IsBelow : ℕ → Progress × World → Type 0
IsBelow n p = progress_turns p.1 p.0 ≤ n

either : {A : Type 0} (P : A → Type 0) (b : Bool) (x y : A) → P x → P y → P (if b then x else y)
either P true x y p q = p
either P false x y p q = q

raised_turns : (n : ℕ) (w : World) (raises : Option ErrorCode) (next : Progress × World) → IsBelow n next → IsBelow n (after_raise w raises next)
raised_turns n w None next h = h
raised_turns n w (Some code) next h = omega arith

missing_turns : (w : World) (at : Stage) (code : ErrorCode) (b : Bool) → progress_turns w (if b then stage_next at else refuses code) ≤ suc (stage_turns w at)
missing_turns w at code true = omega arith
missing_turns w at code false = omega arith

hooked_turns : (w : World) (function : List ℕ) (at : Stage) (r : Result Entered Failure) → progress_turns w (hooked function at r) ≤ suc (stage_turns w at)
hooked_turns w function at (Ok e) = omega arith
hooked_turns w function at (Err (fails code)) = missing_turns w at code _
hooked_turns w function at (Err (stops stop)) = omega arith

hook_turns : (k : Calling) (w : World) (function : List ℕ) (o : ℤ) (name : List ℕ) (vs : List Tree) (at : Stage) → progress_turns w (hook k w function o name vs at) ≤ suc (stage_turns w at)
unfolding hook
hook_turns k w function o name vs at = hooked_turns w function at _

moved_turns : (k : Calling) (w : World) (what to : ℤ) → IsBelow 2 (moved k w what to)
unfolding moved
moved_turns k w what to = either (IsBelow 2) (is_to_move w what to) _ _ (raised_turns 2 w _ _ (hook_turns k _ _ _ _ _ (stage.Leaving what to))) (omega arith)

accepted_turns : (k : Calling) (w : World) (what to : ℤ) (answer : Bool) → IsBelow 2 (accepted k w what to answer)
unfolding accepted
accepted_turns k w what to answer = either (IsBelow 2) (may_enter w k.programmer answer) _ _ (moved_turns k w what to) (omega arith)

left_turns : (k : Calling) (w : World) (what to : ℤ) → IsBelow 1 (after_leaving k w what to)
unfolding after_leaving
left_turns k w what to = either (IsBelow 1) (has_come w what to) _ _ (hook_turns k w _ _ _ _ stage.Entering) (omega arith)

taken_turns : (n : ℕ) (w : World) (o : ℤ) → IsBelow (suc n) (taken_away w o)
unfolding taken_away
taken_turns n w o = raised_turns (suc n) w (recycle_raises (number_of w.objects o)) _ (omega arith)

number_itself : (objects : List (Option Object)) (y : ℕ) (P : Option ℕ → Type 0) → P (Some y) → P None → P (number_of objects (pos y))
number_itself objects y P p q = either P (is_some (object_of objects y)) (Some y) None p q

module _ (k : Calling) (w : World) (f : IsForest w.containment) (o : ℤ) where
  out_turns : (x y : ℕ) (ys : List ℕ) → number_of w.objects o ≡ Some x → below_of w.containment x ≡ y ∷ ys → IsBelow (suc (length (y ∷ ys))) (moved_out k w o (pos y))
  unfolding moved_out
  out_turns x y ys e q =
      number_itself w.objects y (λ z. IsBelow (suc (length (y ∷ ys))) (after_raise w (move_raises w z (Some None)) (recycle_calls k (world_move w z (Some None)) o (codes "exitfunc") (object (pos y) ∷ []))))
      (raised_turns (suc (length (y ∷ ys))) w (move_raises w (Some y) (Some None)) (recycle_calls k (world_move w (Some y) (Some None)) o (codes "exitfunc") (object (pos y) ∷ []))
      (let after = world_move w (Some y) (Some None) in
      let most = hook_turns k after (codes "recycle") o (codes "exitfunc") (object (pos y) ∷ []) (stage.Emptying o) in
      let less = fewer_inside w.containment f x y ys q in
      let all = ap length q in
      let inside : count_inside after o ≡ length (below_of (relinked w.containment y None) x) = ap (λ z. unwrap_or (option_map (λ u. length (below_of (relinked w.containment y None) u)) z) 0) e in
      omega (arith, most, less, all, inside)))
      (omega arith)

  inside_turns : (x : ℕ) → number_of w.objects o ≡ Some x → (ys : List ℕ) → below_of w.containment x ≡ ys → IsBelow (suc (length ys)) (emptied k w o (option_map (λ y. pos y) (slice_get ys 0)))
  inside_turns x e [] q = taken_turns 0 w o
  inside_turns x e (y ∷ ys) q = out_turns x y ys e q

  emptied_turns : (z : Option ℕ) → number_of w.objects o ≡ z → IsBelow (suc (unwrap_or (option_map (λ x. length (below_of w.containment x)) z) 0)) (emptied k w o (option_map (λ y. pos y) (option_and_then (λ x. slice_get (below_of w.containment x) 0) z)))
  emptied_turns None e = taken_turns 0 w o
  emptied_turns (Some x) e = inside_turns x e (below_of w.containment x) refl

stage_below : (k : Calling) (w : World) (at : Stage) (v : Tree) → IsForest w.containment → IsBelow (stage_turns w at) (next_progress k w at v)
stage_below k w stage.Passed v f = omega arith
stage_below k w (stage.Created o) v f = omega arith
stage_below k w (stage.Accepting what to) v f = accepted_turns k w what to (is_true v)
stage_below k w (stage.Leaving what to) v f = left_turns k w what to
stage_below k w stage.Entering v f = omega arith
stage_below k w (stage.Emptying o) v f = emptied_turns k w f o (number_of w.objects o) refl
stage_below k w (stage.Recycled o) v f = omega arith
stage_below k w stage.Evaluated v f = omega arith

-- what a stage comes to has fewer steps before it
pub fewer_after : (k : Calling) (w w' : World) (at : Stage) (v : Tree) (r : Result code_progress.Progress code_failure.Failure) → IsForest w.containment → (IsKnownFailure r → next_progress k w at v ≡ (seen_progress r, w')) → IfOk r (λ next. progress_turns w' (progress_of next) ≤ stage_turns w at)
fewer_after k w w' at v (Ok next) f h = subst (λ x. IsBelow (stage_turns w at) x) (h tt) (stage_below k w at v f)
fewer_after k w w' at v (Err failure) f h = tt

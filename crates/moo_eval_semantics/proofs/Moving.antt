-- What a call of `move` comes to, from its begin to its end.
use Rattle.std.proofs.Common.{◌≡◌, ℤ, pos, negsuc, [], ◌∷◌, codes, Bool, true, false, not, None, Result, Err, if◌then◌else◌, refl}
use Rattle.std.specs.Ordering.{int_eq}
use Rattle.moo_value.specs.declared.error_code.ErrorCode.TheVariants.{InvalidArgument, Permission, NotAccepted}
use Rattle.moo_value.specs.Tree.{Tree, integer, object}
use Rattle.moo_builtin_operator.specs.Truth.{is_true}
use Rattle.moo_syntax_function.specs.declared.function.Function.TheVariants as function
use Rattle.moo_world.specs.Rights.{may_own}
use Rattle.moo_eval_frame.specs.Outcome.{Failure, fails}
use Rattle.moo_eval_frame.specs.State.{Context}
use Rattle.moo_eval_access.specs.State.{State}
use Rattle.moo_builtin.specs.Telling.{Telling}
use Rattle.moo_eval_semantics.specs.declared.stage.Stage.TheVariants.{Accepting, Leaving, Entering}
use Rattle.moo_eval_semantics.specs.Progressing.{calling, Progress, gives, refuses, after_raise}
use Rattle.moo_builtin_world.specs.Objects.{is_valid}
use Rattle.moo_eval_semantics.specs.Objects.{is_place, location}
use Rattle.moo_eval_semantics.specs.Moving.{move_calls, is_to_move, moved, moving, may_enter, accepted, has_come, after_leaving}
use Rattle.moo_eval_semantics.specs.VerbCalls.{Starts, refused, starts}
use Rattle.moo_eval_semantics.specs.Meaning.{Proceeds, is_done}
use Rattle.moo_eval_semantics.specs.Moves as law
use Rattle.moo_eval_semantics.specs.Moves.{move_error, with_move, Arrives, Goes, Moves}
use Rattle.moo_eval_semantics.proofs.Called.{GoesOn, Follows, failed, answered, hook_then_follows, unless_raised, begun, refused_object, valid_object}

module _ (T : Telling) (c : Context) (what to : ℤ) where
  arrival_after : {s s' : State} {r : Result Tree Failure} → has_come s.world what to ≡ true → Follows T c (codes "move") to (codes "enterfunc") (object what ∷ []) Entering s r s' → Arrives T c what to s r s'
  arrival_after h (failed d) = law.enter_fails h d
  arrival_after h (answered d is_done) = law.told h d

  arrival_by : (s : State) {s' : State} {r : Result Tree Failure} (b : Bool) → has_come s.world what to ≡ b →
      GoesOn T c s (if b then move_calls (calling c s) s.world to (codes "enterfunc") what Entering else (gives (integer (pos 0)), s.world)) r s' → Arrives T c what to s r s'
  arrival_by s true h d = arrival_after h (hook_then_follows T c (codes "move") to (codes "enterfunc") (object what ∷ []) Entering {s = s} d)
  arrival_by s false h is_done = law.gone_on h

  arrival : (s : State) {s' : State} {r : Result Tree Failure} → GoesOn T c s (after_leaving (calling c s) s.world what to) r s' → Arrives T c what to s r s'
  unfolding after_leaving
  arrival s d = arrival_by s (has_come s.world what to) refl d

  departure_after : {s s' : State} {r : Result Tree Failure} → is_to_move s.world what to ≡ true → move_error s what to ≡ None →
      Follows T c (codes "move") (location s.world what) (codes "exitfunc") (object what ∷ []) (Leaving what to) (with_move s what to) r s' → Goes T c what to s r s'
  departure_after h e (failed d) = law.leave_fails h e d
  departure_after h e (answered {s' = s'} d n) = law.leaves h e d (arrival s' n)

  departure_by : (s : State) {s' : State} {r : Result Tree Failure} (b : Bool) → is_to_move s.world what to ≡ b →
      GoesOn T c s (if b then after_raise s.world (move_error s what to) (move_calls (calling c s) (with_move s what to).world (location s.world what) (codes "exitfunc") what (Leaving what to)) else (gives (integer (pos 0)), s.world)) r s' → Goes T c what to s r s'
  departure_by s {s' = s'} {r = r} true h d =
      unless_raised (Goes T c what to s r s') (move_error s what to) _
      (λ code e p q. rw (p, q) (law.refused h e))
      (λ e n. departure_after h e (hook_then_follows T c (codes "move") (location s.world what) (codes "exitfunc") (object what ∷ []) (Leaving what to) {s = with_move s what to} n)) d
  departure_by s false h is_done = law.stays h

  departure : (s : State) {s' : State} {r : Result Tree Failure} → GoesOn T c s (moved (calling c s) s.world what to) r s' → Goes T c what to s r s'
  unfolding moved
  departure s d = departure_by s (is_to_move s.world what to) refl d

  module _ (s : State) (here : is_valid s.world what ≡ true) (place : is_place s.world to ≡ true) (own : may_own s.world s.programmer what ≡ true) where
    accepted_by : (s1 : State) {s' : State} {v : Tree} {r : Result Tree Failure} → int_eq to (negsuc 0) ≡ false → law.CallsAccept T c what to s v s1 → (b : Bool) → may_enter s1.world s1.programmer (is_true v) ≡ b →
        GoesOn T c s1 (if b then moved (calling c s1) s1.world what to else (refuses NotAccepted, s1.world)) r s' → Moves T c what to s r s'
    accepted_by s1 n d true e g = law.accepted here place own n d e (departure s1 g)
    accepted_by s1 n d false e is_done = law.not_accepted here place own n d e

    accepted_then : (s1 : State) {s' : State} {v : Tree} {r : Result Tree Failure} → int_eq to (negsuc 0) ≡ false → law.CallsAccept T c what to s v s1 →
        GoesOn T c s1 (accepted (calling c s1) s1.world what to (is_true v)) r s' → Moves T c what to s r s'
    unfolding accepted
    accepted_then s1 {v = v} n d g = accepted_by s1 n d (may_enter s1.world s1.programmer (is_true v)) refl g

    asked : {s' : State} {r : Result Tree Failure} → int_eq to (negsuc 0) ≡ false → Follows T c (codes "move") to (codes "accept") (object what ∷ []) (Accepting what to) s r s' → Moves T c what to s r s'
    asked n (failed d) = law.accept_fails here place own n d
    asked n (answered {s' = s1} d g) = accepted_then s1 n d g

    leads_to : {s' : State} {r : Result Tree Failure} (b : Bool) → int_eq to (negsuc 0) ≡ b →
        GoesOn T c s (if b then moved (calling c s) s.world what to else move_calls (calling c s) s.world to (codes "accept") what (Accepting what to)) r s' → Moves T c what to s r s'
    leads_to true n d = law.to_nowhere here place own n (departure s d)
    leads_to false n d = asked n (hook_then_follows T c (codes "move") to (codes "accept") (object what ∷ []) (Accepting what to) {s = s} d)

  move_by : (s : State) {s' : State} {r : Result Tree Failure} → is_valid s.world what ≡ true → (place : Bool) → is_place s.world to ≡ place → (own : Bool) → may_own s.world s.programmer what ≡ own →
      GoesOn T c s (if not place then (refuses InvalidArgument, s.world) else if not own then (refuses Permission, s.world) else if int_eq to (negsuc 0) then moved (calling c s) s.world what to else move_calls (calling c s) s.world to (codes "accept") what (Accepting what to)) r s' → Moves T c what to s r s'
  move_by s here false p own o is_done = law.no_place here p
  move_by s here true p false o is_done = law.not_owned here p o
  move_by s here true p true o d = leads_to s here p o (int_eq to (negsuc 0)) refl d

  whole_move : (s : State) {s' : State} {r : Result Tree Failure} → is_valid s.world what ≡ true → GoesOn T c s (moving (calling c s) s.world what to) r s' → Moves T c what to s r s'
  unfolding moving
  whole_move s here d = move_by s here (is_place s.world to) refl (may_own s.world s.programmer what) refl d

  pub what_moves : {p : Progress} {s s' s'' : State} {r : Result Tree Failure} → Starts T c function.Move (object what ∷ object to ∷ []) s p s' → Proceeds T c p s' r s'' → Moves T c what to s r s''
  what_moves {s = s} (refused q) is_done = refused_object (λ code. Moves T c what to s (Err (fails code)) s) (is_valid s.world what) (λ h. law.no_object h) q
  what_moves {s = s} (starts q b u) d = whole_move s (valid_object (is_valid s.world what) q) (begun s b u d)

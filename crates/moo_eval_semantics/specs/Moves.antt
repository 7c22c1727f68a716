-- What `move` does.
use Rattle.std.specs.Prelude.{◌≡◌, ℤ, pos, negsuc, [], ◌∷◌, codes, true, false, Option, Some, None, Result, Ok, Err}
use Rattle.std.specs.Ordering.{int_eq}
use Rattle.moo_value.specs.declared.error_code.ErrorCode.{ErrorCode}
use Rattle.moo_value.specs.declared.error_code.ErrorCode.TheVariants.{InvalidArgument, Permission, NotAccepted}
use Rattle.moo_value.specs.Tree.{Tree, integer, object}
use Rattle.moo_builtin_operator.specs.Truth.{is_true}
use Rattle.moo_world.specs.Calls.{number_of, place_of, move_raises, world_move}
use Rattle.moo_world.specs.Rights.{may_own}
use Rattle.moo_eval_frame.specs.Outcome.{Failure, fails}
use Rattle.moo_eval_frame.specs.State.{Context}
use Rattle.moo_eval_access.specs.State.{State}
use Rattle.moo_builtin.specs.Telling.{Telling}
use Rattle.moo_builtin_world.specs.Objects.{is_valid}
use Rattle.moo_eval_semantics.specs.Objects.{is_place, location}
use Rattle.moo_eval_semantics.specs.Moving.{is_to_move, may_enter, has_come}
use Rattle.moo_eval_semantics.specs.Verbs.{CallsVerb}

-- the error with which the world refuses the move, if it does
abbrev pub move_error : State → ℤ → ℤ → Option ErrorCode
move_error s what to = move_raises s.world (number_of s.world.objects what) (place_of s.world.objects to)

-- the object is at its new place, and nothing else has changed
abbrev pub with_move : State → ℤ → ℤ → State
with_move s what to = record s { world = world_move s.world (number_of s.world.objects what) (place_of s.world.objects to) }

-- The `enterfunc` of the new place is called, if the object is still there.
pub data Arrives (T : Telling) (c : Context) (what to : ℤ) : State → Result Tree Failure → State → Type 0 where
  gone_on : {s : State} →
      has_come s.world what to ≡ false →
      Arrives T c what to s (Ok (integer (pos 0))) s
  told : {s s' : State} {v : Tree} →
      has_come s.world what to ≡ true → CallsVerb T c (codes "move") to (codes "enterfunc") (object what ∷ []) s (Ok v) s' →
      Arrives T c what to s (Ok (integer (pos 0))) s'
  enter_fails : {s s' : State} {failure : Failure} →
      has_come s.world what to ≡ true → CallsVerb T c (codes "move") to (codes "enterfunc") (object what ∷ []) s (Err failure) s' →
      Arrives T c what to s (Err failure) s'

-- The object moves, if both are still valid and it is elsewhere; then the `exitfunc` of the place that it has left is
-- called.
pub data Goes (T : Telling) (c : Context) (what to : ℤ) : State → Result Tree Failure → State → Type 0 where
  stays : {s : State} →
      is_to_move s.world what to ≡ false →
      Goes T c what to s (Ok (integer (pos 0))) s
  refused : {s : State} {code : ErrorCode} →
      is_to_move s.world what to ≡ true → move_error s what to ≡ Some code →
      Goes T c what to s (Err (fails code)) s
  leaves : {s s' s'' : State} {v : Tree} {r : Result Tree Failure} →
      is_to_move s.world what to ≡ true → move_error s what to ≡ None →
      CallsVerb T c (codes "move") (location s.world what) (codes "exitfunc") (object what ∷ []) (with_move s what to) (Ok v) s' → Arrives T c what to s' r s'' →
      Goes T c what to s r s''
  leave_fails : {s s' : State} {failure : Failure} →
      is_to_move s.world what to ≡ true → move_error s what to ≡ None →
      CallsVerb T c (codes "move") (location s.world what) (codes "exitfunc") (object what ∷ []) (with_move s what to) (Err failure) s' →
      Goes T c what to s (Err failure) s'

-- the place's `accept` is called, and returns
abbrev pub CallsAccept : Telling → Context → ℤ → ℤ → State → Tree → State → Type 0
CallsAccept T c what to s v s' = CallsVerb T c (codes "move") to (codes "accept") (object what ∷ []) s (Ok v) s'

-- `move(what, to)`: the object has to be there and the programmer's, and the place one. Its `accept` is called,
-- except for #-1; wizards move what it doesn't accept. What verbs have done before a failure stays.
pub data Moves (T : Telling) (c : Context) (what to : ℤ) : State → Result Tree Failure → State → Type 0 where
  no_object : {s : State} →
      is_valid s.world what ≡ false →
      Moves T c what to s (Err (fails InvalidArgument)) s
  no_place : {s : State} →
      is_valid s.world what ≡ true → is_place s.world to ≡ false →
      Moves T c what to s (Err (fails InvalidArgument)) s
  not_owned : {s : State} →
      is_valid s.world what ≡ true → is_place s.world to ≡ true → may_own s.world s.programmer what ≡ false →
      Moves T c what to s (Err (fails Permission)) s
  to_nowhere : {s s' : State} {r : Result Tree Failure} →
      is_valid s.world what ≡ true → is_place s.world to ≡ true → may_own s.world s.programmer what ≡ true → int_eq to (negsuc 0) ≡ true →
      Goes T c what to s r s' →
      Moves T c what to s r s'
  accepted : {s s' s'' : State} {v : Tree} {r : Result Tree Failure} →
      is_valid s.world what ≡ true → is_place s.world to ≡ true → may_own s.world s.programmer what ≡ true → int_eq to (negsuc 0) ≡ false →
      CallsAccept T c what to s v s' → may_enter s'.world s'.programmer (is_true v) ≡ true → Goes T c what to s' r s'' →
      Moves T c what to s r s''
  not_accepted : {s s' : State} {v : Tree} →
      is_valid s.world what ≡ true → is_place s.world to ≡ true → may_own s.world s.programmer what ≡ true → int_eq to (negsuc 0) ≡ false →
      CallsAccept T c what to s v s' → may_enter s'.world s'.programmer (is_true v) ≡ false →
      Moves T c what to s (Err (fails NotAccepted)) s'
  accept_fails : {s s' : State} {failure : Failure} →
      is_valid s.world what ≡ true → is_place s.world to ≡ true → may_own s.world s.programmer what ≡ true → int_eq to (negsuc 0) ≡ false →
      CallsVerb T c (codes "move") to (codes "accept") (object what ∷ []) s (Err failure) s' →
      Moves T c what to s (Err failure) s'

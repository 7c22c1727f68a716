-- What `recycle` does.
use Rattle.std.specs.Prelude.{◌≡◌, ℤ, pos, negsuc, [], ◌∷◌, ◌++◌, codes, true, false, Some, None, Option, Result, Ok, Err}
use Rattle.moo_value.specs.declared.error_code.ErrorCode.{ErrorCode}
use Rattle.moo_value.specs.declared.error_code.ErrorCode.TheVariants.{InvalidArgument, Permission}
use Rattle.moo_value.specs.Tree.{Tree, integer, object}
use Rattle.moo_world.specs.Calls.{number_of, place_of, move_raises, world_move}
use Rattle.moo_world.specs.RecycleCalls.{recycle_raises, world_recycle}
use Rattle.moo_world.specs.Rights.{may_own}
use Rattle.moo_eval_frame.specs.declared.notice.Notice.TheVariants.{Recycle}
use Rattle.moo_eval_frame.specs.Outcome.{Failure, fails}
use Rattle.moo_eval_frame.specs.State.{Context}
use Rattle.moo_eval_access.specs.State.{State}
use Rattle.moo_builtin.specs.Telling.{Telling}
use Rattle.moo_builtin_world.specs.Objects.{is_valid}
use Rattle.moo_eval_semantics.specs.Objects.{first_inside}
use Rattle.moo_eval_semantics.specs.Recycling.{owner_of, uncounted}
use Rattle.moo_eval_semantics.specs.Verbs.{CallsVerb}

-- the error with which the world refuses to move something to no place, if it does
abbrev pub out_error : State → ℤ → Option ErrorCode
out_error s inside = move_raises s.world (number_of s.world.objects inside) (place_of s.world.objects (negsuc 0))

-- the state after something has moved to no place
abbrev pub with_out : State → ℤ → State
with_out s inside = record s { world = world_move s.world (number_of s.world.objects inside) (place_of s.world.objects (negsuc 0)) }

-- the object is gone, no longer counts in its owner's quota, and a notice is left of it
abbrev pub without : State → ℤ → State
without s o = record s { world = uncounted (world_recycle s.world (number_of s.world.objects o)) (owner_of s.world o); notices = s.notices ++ Recycle o ∷ [] }

-- The contents of an object are moved out, the first one first, and its `exitfunc` is called for each, until it has
-- none. Then it is removed, unless a verb has done so before.
pub data Empties (T : Telling) (c : Context) (o : ℤ) : State → Result Tree Failure → State → Type 0 where
  gone_before : {s : State} {code : ErrorCode} →
      first_inside s.world o ≡ None → recycle_raises (number_of s.world.objects o) ≡ Some code →
      Empties T c o s (Err (fails code)) s
  taken_away : {s : State} →
      first_inside s.world o ≡ None → recycle_raises (number_of s.world.objects o) ≡ None →
      Empties T c o s (Ok (integer (pos 0))) (without s o)
  stays_inside : {s : State} {inside : ℤ} {code : ErrorCode} →
      first_inside s.world o ≡ Some inside → out_error s inside ≡ Some code →
      Empties T c o s (Err (fails code)) s
  moves_out : {s s' s'' : State} {inside : ℤ} {v : Tree} {r : Result Tree Failure} →
      first_inside s.world o ≡ Some inside → out_error s inside ≡ None →
      CallsVerb T c (codes "recycle") o (codes "exitfunc") (object inside ∷ []) (with_out s inside) (Ok v) s' → Empties T c o s' r s'' →
      Empties T c o s r s''
  exit_fails : {s s' : State} {inside : ℤ} {failure : Failure} →
      first_inside s.world o ≡ Some inside → out_error s inside ≡ None →
      CallsVerb T c (codes "recycle") o (codes "exitfunc") (object inside ∷ []) (with_out s inside) (Err failure) s' →
      Empties T c o s (Err failure) s'

-- `recycle(o)`: the object has to be valid and the programmer's. Its `recycle` is called.
pub data Recycles (T : Telling) (c : Context) (o : ℤ) : State → Result Tree Failure → State → Type 0 where
  no_object : {s : State} →
      is_valid s.world o ≡ false →
      Recycles T c o s (Err (fails InvalidArgument)) s
  not_owned : {s : State} →
      is_valid s.world o ≡ true → may_own s.world s.programmer o ≡ false →
      Recycles T c o s (Err (fails Permission)) s
  told_and_emptied : {s s' s'' : State} {v : Tree} {r : Result Tree Failure} →
      is_valid s.world o ≡ true → may_own s.world s.programmer o ≡ true →
      CallsVerb T c (codes "recycle") o (codes "recycle") [] s (Ok v) s' → Empties T c o s' r s'' →
      Recycles T c o s r s''
  recycle_fails : {s s' : State} {failure : Failure} →
      is_valid s.world o ≡ true → may_own s.world s.programmer o ≡ true →
      CallsVerb T c (codes "recycle") o (codes "recycle") [] s (Err failure) s' →
      Recycles T c o s (Err failure) s'

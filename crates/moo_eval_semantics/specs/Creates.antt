-- What `create` does.
use Rattle.std.specs.Prelude.{◌≡◌, ℤ, negsuc, [], codes, true, false, Some, None, Result, Ok, Err}
use Rattle.moo_value.specs.declared.error_code.ErrorCode.{ErrorCode}
use Rattle.moo_value.specs.declared.error_code.ErrorCode.TheVariants.{Permission, Quota}
use Rattle.moo_value.specs.Tree.{Tree, object}
use Rattle.moo_world.specs.Calls.{place_of, create_raises, world_create}
use Rattle.moo_world.specs.Rights.{controls}
use Rattle.moo_eval_frame.specs.Outcome.{Failure, fails}
use Rattle.moo_eval_frame.specs.State.{Context}
use Rattle.moo_eval_access.specs.State.{State}
use Rattle.moo_builtin.specs.Telling.{Telling}
use Rattle.moo_eval_semantics.specs.Quota.{quota, is_used_up, with_quota}
use Rattle.moo_eval_semantics.specs.Creating.{may_be_parent, next_number, owner_of_new}
use Rattle.moo_eval_semantics.specs.Verbs.{CallsVerb}

-- the object is there, and counts for its owner
abbrev pub with_new : State → ℤ → ℤ → State
with_new s up owner = record s { world = with_quota (world_create s.world (place_of s.world.objects up) (owner_of_new s.world owner)) owner (quota s.world owner) (negsuc 0) }

-- the parent, the quota and the world allow the object; the owner may still be refused
abbrev pub MayCreate : State → ℤ → ℤ → Type 0
MayCreate s up owner =
    (may_be_parent s.world s.programmer up ≡ true) × (is_used_up (quota s.world owner) ≡ false) × (create_raises s.world (place_of s.world.objects up) ≡ None)

-- `create(up, owner)`: the parent has to be the programmer's or fertile, the owner's quota not used up, and the world
-- not full. The owner has to be the programmer, except for wizards. The object's `initialize` is called, and the object
-- stays even if that fails.
pub data Creates (T : Telling) (c : Context) (up owner : ℤ) : State → Result Tree Failure → State → Type 0 where
  no_parent : {s : State} →
      may_be_parent s.world s.programmer up ≡ false →
      Creates T c up owner s (Err (fails Permission)) s
  used_up : {s : State} →
      may_be_parent s.world s.programmer up ≡ true → is_used_up (quota s.world owner) ≡ true →
      Creates T c up owner s (Err (fails Quota)) s
  no_room : {s : State} {code : ErrorCode} →
      may_be_parent s.world s.programmer up ≡ true → is_used_up (quota s.world owner) ≡ false → create_raises s.world (place_of s.world.objects up) ≡ Some code →
      Creates T c up owner s (Err (fails code)) s
  another_owner : {s : State} →
      MayCreate s up owner → controls s.world s.programmer owner ≡ false →
      Creates T c up owner s (Err (fails Permission)) s
  made : {s s' : State} {v : Tree} →
      MayCreate s up owner → controls s.world s.programmer owner ≡ true →
      CallsVerb T c (codes "create") (next_number s.world) (codes "initialize") [] (with_new s up owner) (Ok v) s' →
      Creates T c up owner s (Ok (object (next_number s.world))) s'
  initialize_fails : {s s' : State} {failure : Failure} →
      MayCreate s up owner → controls s.world s.programmer owner ≡ true →
      CallsVerb T c (codes "create") (next_number s.world) (codes "initialize") [] (with_new s up owner) (Err failure) s' →
      Creates T c up owner s (Err failure) s'

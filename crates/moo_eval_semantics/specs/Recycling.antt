-- `recycle`: an object is removed.
use Rattle.std.specs.Prelude.{ℕ, ℤ, pos, negsuc, List, [], ◌∷◌, codes, Option, Some, None, if◌then◌else◌}
use Rattle.std.specs.Option.{unwrap_or}
use Rattle.moo_value.specs.declared.error_code.ErrorCode.TheVariants.{Permission}
use Rattle.moo_value.specs.Tree.{Tree, object}
use Rattle.moo_world_table.specs.World.{World, nothing}
use Rattle.moo_world.specs.Calls.{number_of, place_of, move_raises, world_move}
use Rattle.moo_world.specs.Numbered.{object_numbered}
use Rattle.moo_world.specs.RecycleCalls.{recycle_raises, world_recycle}
use Rattle.moo_world.specs.Rights.{may_own}
use Rattle.moo_eval_semantics.specs.declared.stage.Stage.TheVariants.{Emptying, Recycled}
use Rattle.moo_eval_semantics.specs.Progressing.{Calling, Progress, stage_next, refuses, after_raise, hook}
use Rattle.moo_eval_semantics.specs.Quota.{quota, with_quota}

-- `recycle` calls a verb of the object, after which its contents come
abbrev pub recycle_calls : Calling → World → ℤ → List ℕ → List Tree → Progress × World
recycle_calls k w o name vs = (hook k w (codes "recycle") o name vs (Emptying o), w)

-- the object has to be the programmer's, and its `recycle` is called
unfoldable pub recycling : Calling → World → ℤ → Progress × World
recycling k w o = if may_own w k.programmer o then recycle_calls k w o (codes "recycle") [] else (refuses Permission, w)

abbrev pub owner_of : World → ℤ → ℤ
owner_of w o = (unwrap_or (object_numbered w o) nothing).owner

-- the world in which an object no longer counts for this owner
abbrev pub uncounted : World → ℤ → World
uncounted w owner = with_quota w owner (quota w owner) (pos 1)

-- The object is removed, unless a verb has done so, and no longer counts in its owner's quota. The quota is the one
-- that is found once the object is gone.
unfoldable pub taken_away : World → ℤ → Progress × World
taken_away w o =
    let x = number_of w.objects o in
    after_raise w (recycle_raises x) (stage_next (Recycled o), uncounted (world_recycle w x) (owner_of w o))

-- one of the contents is moved out, and the object's `exitfunc` is called
unfoldable pub moved_out : Calling → World → ℤ → ℤ → Progress × World
moved_out k w o inside =
    let y = number_of w.objects inside in
    let nowhere = place_of w.objects (negsuc 0) in
    after_raise w (move_raises w y nowhere) (recycle_calls k (world_move w y nowhere) o (codes "exitfunc") (object inside ∷ []))

-- the first of what is in it is moved out, until nothing is in it
abbrev pub emptied : Calling → World → ℤ → Option ℤ → Progress × World
emptied k w o None = taken_away w o
emptied k w o (Some inside) = moved_out k w o inside

-- `create`: an object is made.
use Rattle.std.specs.Prelude.{ℤ, pos, negsuc, [], length, codes, Bool, not, ◌||◌, if◌then◌else◌}
use Rattle.std.specs.Ordering.{int_eq}
use Rattle.moo_value.specs.declared.error_code.ErrorCode.TheVariants.{Permission, Quota}
use Rattle.moo_world_table.specs.World.{World}
use Rattle.moo_world.specs.Calls.{place_of, create_raises, world_create}
use Rattle.moo_world.specs.Rights.{controls, may_inherit_from}
use Rattle.moo_eval_semantics.specs.declared.stage.Stage.TheVariants.{Created}
use Rattle.moo_eval_semantics.specs.Progressing.{Calling, Progress, refuses, after_raise, hook}
use Rattle.moo_eval_semantics.specs.Quota.{quota, is_used_up, with_quota}

-- #-1, or an object that is fertile for the programmer
abbrev pub may_be_parent : World → ℤ → ℤ → Bool
may_be_parent w p to = int_eq to (negsuc 0) || may_inherit_from w p to

-- the number that the next object gets
abbrev pub next_number : World → ℤ
next_number w = pos (length w.objects)

-- the owner #-1 means the new object itself
abbrev pub owner_of_new : World → ℤ → ℤ
owner_of_new w owner = if int_eq owner (negsuc 0) then next_number w else owner

-- the new object's `initialize` is called
abbrev pub initialized : Calling → ℤ → World → Progress × World
initialized k o w = (hook k w (codes "create") o (codes "initialize") [] (Created o), w)

-- The parent comes first, then the owner's quota and the limit of the world, then the right to give it to this owner.
-- The object is made, and counts in its owner's quota.
unfoldable pub creating : Calling → World → ℤ → ℤ → Progress × World
creating k w up owner =
    let p = place_of w.objects up in
    if not (may_be_parent w k.programmer up) then (refuses Permission, w)
    else if is_used_up (quota w owner) then (refuses Quota, w)
    else after_raise w (create_raises w p)
    (if not (controls w k.programmer owner) then (refuses Permission, w)
    else initialized k (next_number w) (with_quota (world_create w p (owner_of_new w owner)) owner (quota w owner) (negsuc 0)))

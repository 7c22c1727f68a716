-- `move`: an object goes to another place.
use Rattle.std.specs.Prelude.{ℕ, ℤ, pos, negsuc, List, [], ◌∷◌, codes, Bool, not, ◌&&◌, ◌||◌, if◌then◌else◌}
use Rattle.std.specs.Ordering.{int_eq}
use Rattle.moo_value.specs.declared.error_code.ErrorCode.TheVariants.{InvalidArgument, Permission, NotAccepted}
use Rattle.moo_value.specs.Tree.{integer, object}
use Rattle.moo_world_table.specs.World.{World}
use Rattle.moo_world.specs.Calls.{number_of, place_of, move_raises, world_move}
use Rattle.moo_world.specs.Rights.{is_wizard, may_own}
use Rattle.moo_eval_semantics.specs.declared.stage.Stage.{Stage}
use Rattle.moo_eval_semantics.specs.declared.stage.Stage.TheVariants.{Accepting, Leaving, Entering}
use Rattle.moo_eval_semantics.specs.Progressing.{Calling, Progress, gives, refuses, after_raise, hook}
use Rattle.moo_builtin_world.specs.Objects.{is_valid}
use Rattle.moo_eval_semantics.specs.Objects.{is_place, location}

-- `move` calls a verb of an object, with the moved object as its argument
abbrev pub move_calls : Calling → World → ℤ → List ℕ → ℤ → Stage → Progress × World
move_calls k w o name what stage = (hook k w (codes "move") o name (object what ∷ []) stage, w)

-- both are still valid, and the object is elsewhere
abbrev pub is_to_move : World → ℤ → ℤ → Bool
is_to_move w what to = is_valid w what && is_place w to && not (int_eq (location w what) to)

-- The move itself, if there is one to make; then the `exitfunc` of the place that it leaves is called.
unfoldable pub moved : Calling → World → ℤ → ℤ → Progress × World
moved k w what to =
    let x = number_of w.objects what in
    let place = place_of w.objects to in
    if is_to_move w what to
    then after_raise w (move_raises w x place) (move_calls k (world_move w x place) (location w what) (codes "exitfunc") what (Leaving what to))
    else (gives (integer (pos 0)), w)

-- The place has to be one, and the object the programmer's; then the place's `accept` is called, except for #-1.
unfoldable pub moving : Calling → World → ℤ → ℤ → Progress × World
moving k w what to =
    if not (is_place w to) then (refuses InvalidArgument, w)
    else if not (may_own w k.programmer what) then (refuses Permission, w)
    else if int_eq to (negsuc 0) then moved k w what to
    else move_calls k w to (codes "accept") what (Accepting what to)

-- wizards may move what the place doesn't accept
abbrev pub may_enter : World → ℤ → Bool → Bool
may_enter w programmer answer = answer || is_wizard w programmer

-- after the place was asked
unfoldable pub accepted : Calling → World → ℤ → ℤ → Bool → Progress × World
accepted k w what to answer = if may_enter w k.programmer answer then moved k w what to else (refuses NotAccepted, w)

-- it is still where it was moved to, and that place is still valid
abbrev pub has_come : World → ℤ → ℤ → Bool
has_come w what to = is_valid w what && is_valid w to && int_eq (location w what) to

-- after the `exitfunc` of the old place: the `enterfunc` of the new one is called, if the object is still there
unfoldable pub after_leaving : Calling → World → ℤ → ℤ → Progress × World
after_leaving k w what to = if has_come w what to then move_calls k w to (codes "enterfunc") what Entering else (gives (integer (pos 0)), w)

-- The results of the functions on objects and their parents.
use Rattle.std.specs.Prelude.{ℤ, negsuc, List, [], ◌∷◌, length, map, Bool, ◌&&◌, ◌||◌, is_some, Option, Some, None, Result, Ok, Err}
use Rattle.std.specs.Ordering.{int_eq}
use Rattle.moo_value.specs.declared.error_code.ErrorCode.{ErrorCode}
use Rattle.moo_value.specs.declared.error_code.ErrorCode.TheVariants.{TypeMismatch, InvalidArgument}
use Rattle.moo_value.specs.Tree.{Tree, object, list_of}
use Rattle.moo_builtin_operator.specs.Answer.{limited}
use Rattle.moo_world_tree.specs.Forest.{above_of, below_of}
use Rattle.moo_world_table.specs.World.{World}
use Rattle.moo_world.specs.Numbered.{object_numbered}
use Rattle.moo_world.specs.Calls.{number_of, place_of, highest, chparent_raises, world_chparent}
use Rattle.moo_world.specs.Rights.{may_own, may_inherit_from}
use Rattle.moo_builtin_world.specs.Order.{changes}
use Rattle.moo_world.specs.NamedProperties.{truth, number_of_place, objects_list}

-- the number is that of an object
abbrev pub is_valid : World → ℤ → Bool
is_valid w o = is_some (number_of w.objects o)

-- what is returned for a valid object; else E_INVARG
abbrev pub of_valid : {X : Type 0} → Option X → (X → Result Tree ErrorCode) → Result Tree ErrorCode
of_valid None f = Err InvalidArgument
of_valid (Some x) f = f x

abbrev pub valid : World → List Tree → Result Tree ErrorCode
valid w (object o ∷ []) = Ok (truth (is_valid w o))
valid w _ = Err TypeMismatch

-- the parent, #-1 for none
abbrev pub parent : World → List Tree → Result Tree ErrorCode
parent w (object o ∷ []) = of_valid (number_of w.objects o) (λ x. Ok (object (number_of_place (above_of w.inheritance x))))
parent w _ = Err TypeMismatch

-- the children, the newest last
abbrev pub children : World → List Tree → Result Tree ErrorCode
children w (object o ∷ []) = of_valid (number_of w.objects o) (λ x. limited (objects_list (below_of w.inheritance x)))
children w _ = Err TypeMismatch

-- the highest number that was given out, #-1 for none
abbrev pub max_object : World → List Tree → Result Tree ErrorCode
max_object w [] = Ok (object (highest (length w.objects)))
max_object w _ = Err TypeMismatch

abbrev pub listed_players : World → List Tree → Result Tree ErrorCode
listed_players w [] = limited (list_of (map (λ p. object p) w.players))
listed_players w _ = Err TypeMismatch

-- whether an object has the flag of players
abbrev pub is_player : World → List Tree → Result Tree ErrorCode
is_player w (object o ∷ []) = of_valid (object_numbered w o) (λ thing. Ok (truth thing.flags.player))
is_player w _ = Err TypeMismatch

-- #-1, or an object that is fertile for the programmer
abbrev pub may_be_parent : World → ℤ → ℤ → Bool
may_be_parent w p to = int_eq to (negsuc 0) || may_inherit_from w p to

unfoldable pub reparented : World → ℤ → ℤ → ℤ → Result (Tree × World) ErrorCode
reparented w p o to =
    let x = number_of w.objects o in
    changes (chparent_raises w x (place_of w.objects to)) (may_own w p o && may_be_parent w p to) (world_chparent w x (place_of w.objects to))

abbrev pub change_parent : World → ℤ → List Tree → Result (Tree × World) ErrorCode
change_parent w p (object o ∷ object to ∷ []) = reparented w p o to
change_parent w p _ = Err TypeMismatch

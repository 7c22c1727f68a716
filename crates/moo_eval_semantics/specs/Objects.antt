-- The places of objects.
use Rattle.std.specs.Prelude.{ℤ, pos, negsuc, Bool, ◌||◌, Option, slice_get}
use Rattle.std.specs.Option.{unwrap_or, option_map, option_and_then}
use Rattle.std.specs.Ordering.{int_eq}
use Rattle.moo_world_tree.specs.Forest.{above_of, below_of}
use Rattle.moo_world_table.specs.World.{World}
use Rattle.moo_world.specs.Calls.{number_of}
use Rattle.moo_world.specs.NamedProperties.{number_of_place}
use Rattle.moo_builtin_world.specs.Objects.{is_valid}

-- an object, or #-1 for nowhere
abbrev pub is_place : World → ℤ → Bool
is_place w o = int_eq o (negsuc 0) || is_valid w o

-- the parent of an object, #-1 for none
abbrev pub parent : World → ℤ → ℤ
parent w o = unwrap_or (option_map (λ x. number_of_place (above_of w.inheritance x)) (number_of w.objects o)) (negsuc 0)

-- what an object is in, #-1 for nowhere
abbrev pub location : World → ℤ → ℤ
location w o = unwrap_or (option_map (λ x. number_of_place (above_of w.containment x)) (number_of w.objects o)) (negsuc 0)

-- the first of what is in an object
abbrev pub first_inside : World → ℤ → Option ℤ
first_inside w o = option_map (λ y. pos y) (option_and_then (λ x. slice_get (below_of w.containment x) 0) (number_of w.objects o))

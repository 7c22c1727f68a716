-- The choice of the verb that a command runs.
use Rattle.std.specs.Prelude.{ℕ, ℤ, negsuc, Bool, true, ◌&&◌, ◌||◌, List, [], ◌∷◌, Option, slice_get}
use Rattle.std.specs.Option.{option_map, option_and_then}
use Rattle.std.specs.List.{filter_map, position}
use Rattle.std.specs.Ordering.{int_eq}
use Rattle.moo_world_tree.specs.Forest.{ancestors}
use Rattle.moo_world_object.specs.Objects.{Object}
use Rattle.moo_world_object.specs.declared.verb.Verb.{Verb}
use Rattle.moo_world_object.specs.declared.verb_args.ObjectSpecifier.{ObjectSpecifier}
use Rattle.moo_world_object.specs.declared.verb_args.ObjectSpecifier.TheVariants as specifier
use Rattle.moo_world_object.specs.declared.verb_args.PrepositionSpecifier.{PrepositionSpecifier}
use Rattle.moo_world_object.specs.Numbers.{preposition_specifier_number}
use Rattle.moo_world_object.specs.Patterns.{fits_names}
use Rattle.moo_world_table.specs.World.{World, thing_of}
use Rattle.moo_world.specs.Calls.{number_of}
use Rattle.moo_world.specs.VerbCalls.{verb_place}
use Rattle.moo_command.specs.declared.choice.Chosen.{Chosen}
use Rattle.moo_command.specs.Commands.{Command}
use Rattle.moo_command.specs.Objects.{room_of}

-- `none` if there is no object, `this` if it is the object that is searched, `any` always
abbrev pub agrees : ObjectSpecifier → (looked_on : ℤ) → ℤ → Bool
agrees specifier.None looked_on o = int_eq o (negsuc 0)
agrees specifier.This looked_on o = int_eq o looked_on
agrees specifier.Any looked_on o = true

-- any, or the number of this one: -1 if there is none
abbrev pub takes : PrepositionSpecifier → ℤ → Bool
takes s prep = int_eq (preposition_specifier_number s) (negsuc 1) || int_eq (preposition_specifier_number s) prep

-- a verb whose names match and whose specifiers agree
abbrev pub is_meant : Command → (looked_on : ℤ) → Verb → Bool
is_meant c looked_on v =
    fits_names v.names c.verb && agrees v.args.direct looked_on c.dobj && takes v.args.preposition c.prep && agrees v.args.indirect looked_on c.iobj

-- the first such verb at an object, as the object's number and the verb's index
abbrev pub meant_in : List (Option Object) → Command → ℤ → ℕ → Option (ℕ × ℕ)
meant_in objects c looked_on y = option_map (λ i. (y, i)) (position (is_meant c looked_on) (thing_of objects y).verbs)

-- the first such verb on the nearest of an object and its ancestors that has one
abbrev pub meant_on : World → Command → ℤ → ℕ → Option (ℕ × ℕ)
meant_on w c looked_on x = slice_get (filter_map (meant_in w.objects c looked_on) (x ∷ ancestors w.inheritance x)) 0

abbrev pub chosen_on : World → Command → ℤ → Option Chosen
chosen_on w c looked_on =
    option_map (λ found. record { this = looked_on; found = verb_place found }) (option_and_then (meant_on w c looked_on) (number_of w.objects looked_on))

-- the player, the room, the direct and the indirect object are searched in turn
abbrev pub chosen : World → ℤ → Command → Option Chosen
chosen w player c = slice_get (filter_map (chosen_on w c) (player ∷ room_of w player ∷ c.dobj ∷ c.iobj ∷ [])) 0

-- Verbs that match a name, on an object and its ancestors, and verbs that have a program.
use Rattle.std.specs.Prelude.{ℕ, List, ◌∷◌, Option, Bool, slice_get, is_some, if◌then◌else◌, ◌+◌, ◌-◌}
use Rattle.std.specs.Option.{option_map, option_and_then}
use Rattle.std.specs.List.{filter_map, position}
use Rattle.moo_world_tree.specs.Forest.{ancestors}
use Rattle.moo_world_object.specs.Objects.{Object}
use Rattle.moo_world_object.specs.Verbs.{fits_verb}
use Rattle.moo_world_object.specs.declared.verb.Need.{Need}
use Rattle.moo_world_object.specs.declared.verb.Verb.{Verb}
use Rattle.moo_world_table.specs.World.{World, thing_of, programs_in}

-- an object's first verb that matches, as the object's number and the verb's place
abbrev pub verb_at : List (Option Object) → Need → List ℕ → ℕ → Option (ℕ × ℕ)
verb_at objects need name y = option_map (λ i. (y, i)) (position (fits_verb need name) (thing_of objects y).verbs)

-- the first fitting verb on the nearest of an object and its ancestors that has one
abbrev pub verb_found : World → Need → List ℕ → ℕ → Option (ℕ × ℕ)
verb_found w need name x = slice_get (filter_map (verb_at w.objects need name) (x ∷ ancestors w.inheritance x)) 0

-- the verb at a place, with the number of its object
abbrev pub verb_at_place : List (Option Object) → ℕ × ℕ → Option (ℕ × Verb)
verb_at_place objects place = option_map (λ v. (place.0, v)) (slice_get (thing_of objects place.0).verbs place.1)

-- whether the verb at a place has a program
abbrev pub has_program : List Verb → ℕ → Bool
has_program vs i = is_some (option_and_then (λ v. v.program) (slice_get vs i))

-- one for a program, and nothing for none
abbrev pub one_for : Bool → ℕ
one_for on = if on then 1 else 0

-- how many programs there would be, once the verb at a place has one, or none
abbrev pub programs_with : World → ℕ → ℕ → Bool → ℕ
programs_with w x i on = programs_in w.objects - one_for (has_program (thing_of w.objects x).verbs i) + one_for on

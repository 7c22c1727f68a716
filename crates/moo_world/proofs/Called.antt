-- The verb that a call runs, by the place where it was found.
use Rattle.std.proofs.Common.{◌≡◌, ℕ, ℤ, pos, List, Option, Some, None, refl, sym, ◌∙◌, ap}
use Rattle.std.specs.Prelude.{slice_get, is_some, if◌then◌else◌}
use Rattle.std.specs.Option.{option_map, option_and_then, unwrap_or}
use Rattle.moo_world_object.specs.Objects.{Object}
use Rattle.moo_world_object.specs.declared.verb.Verb.{Verb}
use Rattle.moo_world_table.specs.World.{World, nothing, object_of, thing_of}
use Rattle.moo_world_table.specs.Verbs.{verb_at_place}
use Rattle.moo_world.specs.VerbCalls.{verb_place, verb_there}

numbered_thing : (objects : List (Option Object)) (d : ℕ) (o : Option Object) → object_of objects d ≡ o →
    unwrap_or (option_and_then (object_of objects) (if is_some (object_of objects d) then Some d else None)) nothing ≡ thing_of objects d
numbered_thing objects d None is =
    ap (λ p. unwrap_or (option_and_then (object_of objects) (if is_some p then Some d else None)) nothing) is ∙ sym (ap (λ p. unwrap_or p nothing) is)
numbered_thing objects d (Some o) is = ap (λ p. unwrap_or (option_and_then (object_of objects) (if is_some p then Some d else None)) nothing) is

with_number : (d : ℕ) (found : Option Verb) → option_map {U = ℤ × Verb} (λ p. (pos p.0, p.1)) (option_map {U = ℕ × Verb} (λ v. (d, v)) found) ≡ option_map {U = ℤ × Verb} (λ v. (pos d, v)) found
with_number d None = refl
with_number d (Some v) = refl

pub called_there : (w : World) (place : Option (ℕ × ℕ)) (found : Option (ℕ × Verb)) → found ≡ option_and_then (verb_at_place w.objects) place → option_map {U = ℤ × Verb} (λ p. (pos p.0, p.1)) found ≡ option_and_then (verb_there w) (option_map verb_place place)
called_there w None found is = ap (option_map {U = ℤ × Verb} (λ p. (pos p.0, p.1))) is
called_there w (Some (d, i)) found is =
    ap (option_map {U = ℤ × Verb} (λ p. (pos p.0, p.1))) is
    ∙ with_number d (slice_get (thing_of w.objects d).verbs i)
    ∙ ap (λ (o : Object). option_map {U = ℤ × Verb} (λ v. (pos d, v)) (slice_get o.verbs i)) (sym (numbered_thing w.objects d (object_of w.objects d) refl))

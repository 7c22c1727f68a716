-- The verb at the place that was found.
use Rattle.std.proofs.Common.{◌≡◌, ℕ, ◌<◌, List, Option, Some, None, sym, ◌∙◌, ap, get_or, length}
use Rattle.std.specs.Prelude.{slice_get}
use Rattle.std.specs.Option.{option_map, option_and_then, unwrap_or}
use Rattle.std.proofs.lemmas.List.{get_or_read}
use Rattle.moo_world_object.specs.Objects.{Object}
use Rattle.moo_world_object.specs.declared.verb.Verb.{Verb}
use Rattle.moo_world_table.specs.World.{nothing}
use Rattle.moo_world_table.specs.Verbs.{verb_at_place}

pub verb_placed : (objects : List (Option Object)) (place : Option (ℕ × ℕ)) (at i : ℕ) (o : Option Object) (found : Option Verb) → place ≡ Some (at, i) → at < length objects → o ≡ get_or objects at o → found ≡ slice_get (unwrap_or o nothing).verbs i →
    option_map (λ v. (at, v)) found ≡ option_and_then (verb_at_place objects) place
verb_placed objects place at i o found is within here same =
    ap (option_map (λ v. (at, v))) (same ∙ ap (λ p. slice_get (unwrap_or p nothing).verbs i) (get_or_read objects at o within here None)) ∙ sym (ap (option_and_then (verb_at_place objects)) is)

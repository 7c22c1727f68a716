-- When the calls on verbs raise, and what they leave.
use Rattle.std.specs.Prelude.{ℕ, ℤ, pos, List, Option, Some, None, Bool, if◌then◌else◌, nat_lt, length}
use Rattle.std.specs.Option.{option_map}
use Rattle.moo_value.specs.declared.error_code.ErrorCode.{ErrorCode}
use Rattle.moo_value.specs.declared.error_code.ErrorCode.TheVariants.{InvalidArgument, VerbNotFound, Quota}
use Rattle.moo_world_object.specs.Objects.{Object}
use Rattle.moo_world_object.specs.Patterns.{has_word}
use Rattle.moo_world_table.specs.World.{World, thing_of, most}
use Rattle.moo_world_table.specs.Changes.{with_object}
use Rattle.moo_world_table.specs.Verbs.{programs_with}
use Rattle.moo_world_object.specs.declared.verb.Verb.{Verb}
use Rattle.moo_world.specs.Numbered.{verb_numbered}
use Rattle.moo_world.specs.declared.looking.VerbAt.{VerbAt}

-- what looking at a verb of an object raises
abbrev pub verb_raises : World → Option ℕ → ℕ → Option ErrorCode
verb_raises w None i = Some InvalidArgument
verb_raises w (Some x) i = if nat_lt i (length (thing_of w.objects x).verbs) then None else Some VerbNotFound

-- what a change of a verb's names raises
abbrev pub verb_info_raises : World → Option ℕ → ℕ → List ℕ → Option ErrorCode
verb_info_raises w None i names = Some InvalidArgument
verb_info_raises w (Some x) i names =
    if nat_lt i (length (thing_of w.objects x).verbs) then (if has_word names then None else Some InvalidArgument) else Some VerbNotFound

-- what another program for a verb, or none, raises: there may not be too many
abbrev pub program_raises : World → Option ℕ → ℕ → Bool → Option ErrorCode
program_raises w None i on = Some InvalidArgument
program_raises w (Some x) i on =
    if nat_lt i (length (thing_of w.objects x).verbs) then (if nat_lt most (programs_with w x i on) then Some Quota else None) else Some VerbNotFound

-- what one more verb raises
abbrev pub add_verb_raises : World → Option ℕ → List ℕ → Option ErrorCode
add_verb_raises w None names = Some InvalidArgument
add_verb_raises w (Some x) names =
    if has_word names then (if nat_lt (length (thing_of w.objects x).verbs) most then None else Some Quota) else Some InvalidArgument

-- the world with a valid object changed
abbrev pub world_with_object : World → Option ℕ → (Object → Object) → World
world_with_object w None f = w
world_with_object w (Some x) f = with_object w x f

-- the place of a verb that was found
abbrev pub verb_place : ℕ × ℕ → VerbAt
verb_place found = record { definer = pos found.0; index = found.1 }

-- the verb at a place, and the object that has it
abbrev pub verb_there : World → VerbAt → Option (ℤ × Verb)
verb_there w place = option_map (λ v. (place.definer, v)) (verb_numbered w place.definer place.index)

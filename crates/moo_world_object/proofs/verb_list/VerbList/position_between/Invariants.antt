use Rattle.std.proofs.Common.{◌≡◌, ◌<◌, ℕ, false, length, get_or}
use Rattle.moo_world_object.specs.Verbs.{fits_verb}
use Rattle.moo_world_object.specs.declared.verb.Verb.{Verb}
use Rattle.moo_world_object.proofs.verb_list.VerbList.position_between.Given as goal

abbrev pub invariant-loop-i : goal.invariant-loop-i
invariant-loop-i l = (k : ℕ) (d : Verb) → k < l.i → k < length l.self → fits_verb l.need l.name (get_or l.self k d) ≡ false

use Rattle.std.proofs.Common.{◌≡◌, ◌<◌, ℕ, false, length, get_or}
use Rattle.moo_world_object.specs.declared.verb.Verb.{Verb}
use Rattle.moo_command.specs.Choice.{is_meant}
use Rattle.moo_command.specs.Seen.{command_of}
use Rattle.moo_command.proofs.choice.position_from.Given as goal

abbrev pub invariant-loop-i : goal.invariant-loop-i
invariant-loop-i l = (k : ℕ) (v : Verb) → k < l.i → k < length l.verbs → is_meant (command_of l.wanted.command.now) l.wanted.looked_on (get_or l.verbs k v) ≡ false

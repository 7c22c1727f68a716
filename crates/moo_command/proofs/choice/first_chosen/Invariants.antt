use Rattle.std.proofs.Common.{◌≡◌, drop}
use Rattle.std.specs.List.{filter_map}
use Rattle.moo_command.specs.Choice.{chosen_on}
use Rattle.moo_command.specs.Seen.{command_of}
use Rattle.moo_command.proofs.choice.first_chosen.Given as goal

abbrev pub invariant-loop-place : goal.invariant-loop-place
invariant-loop-place l =
    filter_map (chosen_on l.world (command_of l.command)) l.places ≡ filter_map (chosen_on l.world (command_of l.command)) (drop l.place-index l.places)

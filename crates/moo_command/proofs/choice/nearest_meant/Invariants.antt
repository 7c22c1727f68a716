use Rattle.std.proofs.Common.{◌≡◌, ◌<◌, ◌-◌, ◌∷◌, length}
use Rattle.std.specs.List.{filter_map}
use Rattle.moo_world_tree.specs.Forest.{climb, above_of, ancestors}
use Rattle.moo_command.specs.Choice.{meant_in}
use Rattle.moo_command.specs.Seen.{command_of}
use Rattle.moo_command.proofs.choice.nearest_meant.Given as goal

abbrev pub invariant-loop : goal.invariant-loop
invariant-loop l = record {
  within : l.at < length l.objects;
  rest : filter_map (meant_in l.objects (command_of l.wanted.command.now) l.wanted.looked_on) (l.x ∷ ancestors l.tree l.x)
      ≡ filter_map (meant_in l.objects (command_of l.wanted.command.now) l.wanted.looked_on) (climb (length l.objects - l.counter) l.tree (above_of l.tree l.at));
}

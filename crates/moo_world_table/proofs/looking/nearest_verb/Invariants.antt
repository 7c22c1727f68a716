use Rattle.std.proofs.Common.{◌≡◌, ◌<◌, ◌-◌, ◌∷◌, length}
use Rattle.std.specs.List.{filter_map}
use Rattle.moo_world_tree.specs.Forest.{climb, above_of, ancestors}
use Rattle.moo_world_table.specs.Verbs.{verb_at}
use Rattle.moo_world_table.proofs.looking.nearest_verb.Given as goal

abbrev pub invariant-loop : goal.invariant-loop
invariant-loop l = record {
  within : l.at < length l.objects;
  rest : filter_map (verb_at l.objects l.need l.name) (l.x ∷ ancestors l.tree l.x) ≡ filter_map (verb_at l.objects l.need l.name) (climb (length l.objects - l.counter) l.tree (above_of l.tree l.at));
}

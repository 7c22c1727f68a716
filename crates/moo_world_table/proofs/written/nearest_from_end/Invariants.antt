use Rattle.std.proofs.Common.{◌≡◌, ◌<◌, ◌-◌, ◌∷◌, length}
use Rattle.std.specs.List.{filter_map}
use Rattle.moo_world_tree.specs.Forest.{ancestors, climb, above_of}
use Rattle.moo_world_table.specs.Properties.{value_from_end_at}
use Rattle.moo_world_table.proofs.written.nearest_from_end.Given as goal

abbrev pub invariant-loop : goal.invariant-loop
invariant-loop l = record {
  within : l.at < length l.objects;
  rest : filter_map (value_from_end_at l.objects l.distance) (l.x ∷ ancestors l.parents l.x) ≡ filter_map (value_from_end_at l.objects l.distance) (climb (length l.objects - l.counter) l.parents (above_of l.parents l.at));
}

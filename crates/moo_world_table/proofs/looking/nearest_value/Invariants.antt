use Rattle.std.proofs.Common.{◌≡◌, ◌<◌, ◌-◌, length}
use Rattle.std.specs.List.{filter_map}
use Rattle.moo_value.specs.Compare.{folded}
use Rattle.moo_world_tree.specs.Forest.{climb, above_of}
use Rattle.moo_world_table.specs.Properties.{value_at, values_above}
use Rattle.moo_world_table.proofs.looking.nearest_value.Given as goal

abbrev pub invariant-loop : goal.invariant-loop
invariant-loop l = record {
  within : l.at < length l.objects;
  rest : values_above l.objects l.parents (l.definer, folded l.name) l.x ≡ filter_map (value_at l.objects (l.definer, folded l.name)) (climb (length l.objects - l.counter) l.parents (above_of l.parents l.at));
}

use Rattle.std.proofs.Common.{◌≡◌, drop, vec_len}
use Rattle.moo_world_tree.specs.Walk.{met}
use Rattle.moo_world_table.specs.Steps.{changed_along}
use Rattle.moo_world_table.specs.Recycling.{without_cells_of}
use Rattle.moo_world_table.proofs.recycling.lose_all_along.Given as goal

abbrev pub invariant-loop-step : goal.invariant-loop-step
invariant-loop-step l = record {
  rest : changed_along (without_cells_of l.definer) l.objects.items (met (drop l.step-index l.walk)) ≡ changed_along (without_cells_of l.definer) l.initial.objects.items (met l.walk);
  many : vec_len l.objects ≡ vec_len l.initial.objects;
}

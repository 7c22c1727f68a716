use Rattle.std.proofs.Common.{◌≡◌, drop, vec_len}
use Rattle.moo_value.specs.Compare.{folded}
use Rattle.moo_world_tree.specs.Walk.{met}
use Rattle.moo_world_table.specs.Changes.{without_cell}
use Rattle.moo_world_table.specs.Steps.{changed_along}
use Rattle.moo_world_table.proofs.deleting.lose_along.Given as goal

abbrev pub invariant-loop-step : goal.invariant-loop-step
invariant-loop-step l = record {
  rest : changed_along (without_cell (l.definer, folded l.name)) l.objects.items (met (drop l.step-index l.walk)) ≡ changed_along (without_cell (l.definer, folded l.name)) l.initial.objects.items (met l.walk);
  many : vec_len l.objects ≡ vec_len l.initial.objects;
}

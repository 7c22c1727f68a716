-- There is a name for each object that is left on the walk, and what is left to be done makes the whole.
use Rattle.std.proofs.Common.{◌≡◌, List, ℕ, drop, vec_len}
use Rattle.std.specs.Option.{option_map}
use Rattle.moo_value.specs.Compare.{folded}
use Rattle.moo_world_tree.specs.Walk.{met}
use Rattle.moo_world_table.specs.Steps.{changed_along, with_new_cell_name}
use Rattle.moo_world_table.proofs.NewNames.{names_for}
use Rattle.moo_world_table.proofs.renaming.rename_along.Given as goal

abbrev pub invariant-loop-step : goal.invariant-loop-step
invariant-loop-step l = record {
  left : (n : List ℕ) → l.fn.names.items ≡ names_for n l.walk → l.names.items ≡ names_for n (drop l.step-index l.walk);
  rest : (n : List ℕ) → l.fn.names.items ≡ names_for n l.walk →
      changed_along (option_map (with_new_cell_name (l.definer, folded l.name) (folded n))) l.objects.items (met (drop l.step-index l.walk)) ≡
      changed_along (option_map (with_new_cell_name (l.definer, folded l.name) (folded n))) l.initial.objects.items (met l.walk);
  many : vec_len l.objects ≡ vec_len l.initial.objects;
}

use Rattle.std.proofs.Common.{◌≡◌, drop, length}
use Rattle.std.specs.List.{list_any}
use Rattle.moo_world_tree.specs.Walk.{met}
use Rattle.moo_world_table.specs.Steps.{is_crowded_by}
use Rattle.moo_world_table.proofs.fitting.some_crowded.Given as goal

abbrev pub invariant-loop-step : goal.invariant-loop-step
invariant-loop-step l =
    list_any (is_crowded_by l.objects (length l.gained) (length l.lost)) (met l.walk) ≡ list_any (is_crowded_by l.objects (length l.gained) (length l.lost)) (met (drop l.step-index l.walk))

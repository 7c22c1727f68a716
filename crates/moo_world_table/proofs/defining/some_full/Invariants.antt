use Rattle.std.proofs.Common.{◌≡◌, drop, length, leb}
use Rattle.std.specs.List.{list_any}
use Rattle.moo_world_tree.specs.Walk.{met}
use Rattle.moo_world_table.specs.World.{thing_of, most}
use Rattle.moo_world_table.proofs.defining.some_full.Given as goal

abbrev pub invariant-loop-step : goal.invariant-loop-step
invariant-loop-step l =
    list_any (λ y. leb most (length (thing_of l.objects y).cells)) (met l.walk) ≡ list_any (λ y. leb most (length (thing_of l.objects y).cells)) (met (drop l.step-index l.walk))

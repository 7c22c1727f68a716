use Rattle.std.proofs.Common.{◌≡◌, drop}
use Rattle.std.specs.List.{list_any}
use Rattle.moo_value.specs.Compare.{folded}
use Rattle.moo_world_tree.specs.Walk.{met}
use Rattle.moo_world_object.specs.Cells.{is_named}
use Rattle.moo_world_table.specs.World.{thing_of}
use Rattle.moo_world_table.proofs.defining.some_named.Given as goal

abbrev pub invariant-loop-step : goal.invariant-loop-step
invariant-loop-step l =
    list_any (λ y. list_any (is_named (folded l.name)) (thing_of l.objects y).cells) (met l.walk) ≡ list_any (λ y. list_any (is_named (folded l.name)) (thing_of l.objects y).cells) (met (drop l.step-index l.walk))

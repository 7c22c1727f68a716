use Rattle.std.proofs.Common.{◌≡◌, take, map}
use Rattle.moo_world_tree.specs.declared.walk.Step.{Step}
use Rattle.moo_world_table.proofs.renaming.names_along.Given as goal

abbrev pub invariant-loop-step : goal.invariant-loop-step
invariant-loop-step l = l.names.items ≡ map (λ (s : Step). l.name) (take l._step-index l.walk)

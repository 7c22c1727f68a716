-- The names so far, with those of what is left of the walk, are all names.
use Rattle.std.proofs.Common.{◌≡◌, ◌++◌, drop}
use Rattle.moo_world_tree.specs.Walk.{met}
use Rattle.moo_world_table.specs.Steps.{own_names}
use Rattle.moo_world_table.proofs.clashing.names_below.Given as goal

abbrev pub invariant-loop-step : goal.invariant-loop-step
invariant-loop-step l = l.names.items ++ own_names l.objects (met (drop l.step-index l.walk)) ≡ own_names l.objects (met l.walk)

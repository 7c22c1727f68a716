-- The map has the names so far.
use Rattle.std.proofs.Common.{take}
use Rattle.moo_world_table.specs.Steps.{HasJust}
use Rattle.moo_world_table.proofs.clashing.ordered.Given as goal

abbrev pub invariant-loop-name : goal.invariant-loop-name
invariant-loop-name l = HasJust l.known (take l.name-index l.names)

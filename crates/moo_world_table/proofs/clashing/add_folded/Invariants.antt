-- The names so far are those at first, and those before this one, letters folded.
use Rattle.std.proofs.Common.{◌≡◌, ◌++◌, map, take}
use Rattle.moo_value.specs.Compare.{folded}
use Rattle.moo_world_table.proofs.clashing.add_folded.Given as goal

abbrev pub invariant-loop-name : goal.invariant-loop-name
invariant-loop-name l = l.names.items ≡ l.fn.names.items ++ map folded (take l.name-index l.more)

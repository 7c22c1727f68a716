-- The names so far are those before, letters folded.
use Rattle.std.proofs.Common.{◌≡◌, map, take}
use Rattle.moo_value.specs.Compare.{folded}
use Rattle.moo_syntax_lower.proofs.slots.folded_names.Given as goal

abbrev pub invariant-loop-name : goal.invariant-loop-name
invariant-loop-name l = l.all.items ≡ map folded (take l.name-index l.names)

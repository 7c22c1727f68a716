-- The slots so far, and those of the names that are left, are all of them.
use Rattle.std.proofs.Common.{◌≡◌, ◌++◌, drop}
use Rattle.moo_syntax_program.specs.Order.{numbered}
use Rattle.moo_syntax_program.proofs.order.numbered.Given as goal

abbrev pub invariant-loop-slot : goal.invariant-loop-slot
invariant-loop-slot l = l.slots.items ++ numbered l.slot (drop l.slot l.names) ≡ numbered 0 l.names

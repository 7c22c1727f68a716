use Rattle.std.proofs.Common.{◌≡◌, ◌++◌}
use Rattle.moo_session_connection.proofs.outbox.elements_of.Given as goal

abbrev pub invariant-loop-element : goal.invariant-loop-element
invariant-loop-element l = l.elements.items ++ l.element-iterator ≡ l.set.keys

use Rattle.std.proofs.Common.{◌≡◌, ◌++◌, drop}
use Rattle.moo_session_task.specs.Leaving.{sent_to_each}
use Rattle.moo_session_task.proofs.leaving.send_to_each.Given as goal

abbrev pub invariant-loop-connection : goal.invariant-loop-connection
invariant-loop-connection l = l.sent.items ++ sent_to_each l.line (drop l.connection-index l.connections) ≡ l.initial.sent.items ++ sent_to_each l.line l.connections

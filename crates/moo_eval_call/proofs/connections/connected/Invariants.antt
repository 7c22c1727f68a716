use Rattle.std.proofs.Common.{◌≡◌, drop}
use Rattle.moo_eval_semantics.specs.Connections.{connected}
use Rattle.moo_eval_call.proofs.connections.connected.Given as goal

abbrev pub invariant-loop-connection : goal.invariant-loop-connection
invariant-loop-connection l = connected l.player l.connections ≡ connected l.player (drop l.connection-index l.connections)

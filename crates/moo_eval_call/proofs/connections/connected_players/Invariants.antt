use Rattle.std.proofs.Common.{◌≡◌, ◌++◌, drop}
use Rattle.moo_value.specs.View.{trees}
use Rattle.moo_eval_semantics.specs.Connections.{all_on}
use Rattle.moo_eval_call.proofs.connections.connected_players.Given as goal

abbrev pub invariant-loop-connection : goal.invariant-loop-connection
invariant-loop-connection l = trees l.players.items ++ all_on l.all (drop l.connection-index l.connection-items) ≡ all_on l.all l.connection-items

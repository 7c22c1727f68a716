use Rattle.std.proofs.Common.{◌≡◌, ◌++◌, drop}
use Rattle.moo_session_connection.specs.Clients.{players_on}
use Rattle.moo_session_connection.proofs.playing.players_on.Given as goal

abbrev pub invariant-loop-client : goal.invariant-loop-client
invariant-loop-client l = l.players.items ++ players_on (drop l.client-index l.clients) ≡ players_on l.clients

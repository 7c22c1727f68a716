use Rattle.std.proofs.Common.{◌≡◌, ◌++◌, drop, map}
use Rattle.moo_session_connection.specs.Clients.{number_of}
use Rattle.moo_session_connection.proofs.leaving.numbers_of.Given as goal

abbrev pub invariant-loop-client : goal.invariant-loop-client
invariant-loop-client l = l.numbers.items ++ map number_of (drop l.client-index l.clients) ≡ map number_of l.clients

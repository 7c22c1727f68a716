-- Lines for connections.
use Rattle.std.specs.Prelude.{ℕ, ℤ, List, [], ◌∷◌, ◌++◌, Option, Some, None}
use Rattle.moo_session_connection.specs.declared.client.Client.{Client}
use Rattle.moo_session_connection.specs.Clients.{number_of}
use Rattle.moo_session_connection.specs.Connections.{client_known_as, client_here}
use Rattle.moo_session_task.specs.Session.{Session}

-- a line for a connection, or for nobody
abbrev pub sent_to : Option Client → List ℕ → Session → Session
sent_to None line s = s
sent_to (Some c) line s = record s { sent = s.sent ++ record { to = number_of c; line = line } ∷ [] }

-- A line for the connection of this number, which gets nothing more once it is leaving.
abbrev pub sent : ℕ → List ℕ → Session → Session
sent n line s = sent_to (client_here n s.connections) line s

-- a line for a player, or for a connection on which nobody is connected, by the number that it goes by
abbrev pub notified : ℤ → List ℕ → Session → Session
notified who line s = sent_to (client_known_as who s.connections) line s

-- one line after another
abbrev pub all_notified : ℤ → List (List ℕ) → Session → Session
all_notified who [] s = s
all_notified who (line ∷ lines) s = all_notified who lines (notified who line s)

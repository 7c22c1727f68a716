-- Connections that the server ends.
use Rattle.std.specs.Prelude.{ℕ, ℤ, List, ◌++◌, Option, Some, None, true, map, codes}
use Rattle.moo_eval_frame.specs.declared.surroundings.Connection.{Connection}
use Rattle.moo_session_connection.specs.declared.client.Client.{Client}
use Rattle.moo_session_connection.specs.Clients.{player_on, row_of}
use Rattle.moo_session_connection.specs.Connections.{client_known_as}
use Rattle.moo_session_connection.specs.Changes.{left_by, all_left}
use Rattle.moo_session_connection.specs.Streams.{Sent}
use Rattle.moo_session_task.specs.declared.hook.Hook.TheVariants as hook
use Rattle.moo_session_task.specs.Session.{Session, in_connections, caused}
use Rattle.moo_session_task.specs.Sending.{sent_to}

-- if a player was connected, `user_disconnected` is to run
abbrev pub parted : Option ℤ → Session → Session
parted None s = s
parted (Some player) s = caused (hook.Disconnected player) s

abbrev pub disconnected_from : ℤ → Option Client → List ℕ → Session → Session
disconnected_from who None line s = s
disconnected_from who (Some c) line s = parted (player_on c) (in_connections (left_by who) (sent_to (Some c) line s))

-- Who goes by this number gets a last line, and the connection is leaving.
abbrev pub disconnected : ℤ → List ℕ → Session → Session
disconnected who line s = disconnected_from who (client_known_as who s.connections) line s

-- the line that a shutdown sends
abbrev pub shutdown_line : Option (List ℕ) → List ℕ
shutdown_line None = codes "*** Shutting down ***"
shutdown_line (Some why) = codes "*** Shutting down: " ++ why ++ codes " ***"

-- a line for each of these connections
abbrev pub sent_to_each : List ℕ → List Connection → List Sent
sent_to_each line row = map (λ c. record { to = c.number; line = line }) row

-- A shutdown: every connection gets its line and is leaving, without a hook, and a last checkpoint is asked for.
abbrev pub shut_down : Option (List ℕ) → Session → Session
shut_down why s = record s {
  connections = all_left s.connections;
  asked = true;
  closing = true;
  sent = s.sent ++ sent_to_each (shutdown_line why) (row_of s.connections.clients);
}

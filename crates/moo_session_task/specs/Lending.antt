-- The connections of sessions, lent to be changed.
use Rattle.std.specs.Borrow.{Lends, MutBor, Fml}
use Rattle.moo_session_connection.specs.Connections.{Connections}
use Rattle.moo_session_connection.specs.contracts.connections.Connections.{the_row as connections_row}
use Rattle.moo_session_task.specs.Session.{Session, in_connections}
use Rattle.moo_session_task.specs.contracts.session.Session.{the_row}

-- The sessions end with the last connections that the reference leads to, and otherwise as they were.
abbrev pub LendsConnections : MutBor Session → MutBor Connections → Fml
LendsConnections s r = Lends the_row connections_row s r (λ last. in_connections (λ _. last) s.now)

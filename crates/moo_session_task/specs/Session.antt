-- The sessions of a server: its open connections, what waits to be done for them, and what an event has brought so far.
use Rattle.std.specs.Prelude.{ℕ, Bool, false, List, [], ◌∷◌, ◌++◌}
use Rattle.moo_session_connection.specs.Connections.{Connections, no_connections}
use Rattle.moo_session_connection.specs.Streams.{Sent}
use Rattle.moo_session_task.specs.declared.hook.Hook.{Hook}

pub record Session : Type 0 where
  pub connections : Connections
  -- the hooks that are to run, in the order in which they were caused; between two events there are none
  pub hooks : List Hook
  -- a checkpoint is asked for
  pub asked : Bool
  -- the server is shutting down
  pub closing : Bool
  -- what was sent, in its order
  pub sent : List Sent
  -- the lines for the log, in their order
  pub log : List (List ℕ)

-- no connection is open, and nothing has happened
abbrev pub no_session : Session
no_session = record { connections = no_connections; hooks = []; asked = false; closing = false; sent = []; log = [] }

-- with the connections changed
abbrev pub in_connections : (Connections → Connections) → Session → Session
in_connections f s = record s { connections = f s.connections }

abbrev pub with_hooks : List Hook → Session → Session
with_hooks hooks s = record s { hooks = hooks }

-- one more hook, after those that wait
abbrev pub caused : Hook → Session → Session
caused h s = with_hooks (s.hooks ++ h ∷ []) s

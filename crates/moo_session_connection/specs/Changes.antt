-- The changes of connections.
use Rattle.std.specs.Prelude.{◌≡◌, ℕ, ℤ, Bool, List, [], ◌∷◌, ◌++◌, map, Option, Some, None}
use Rattle.moo_session_line.specs.Rest.{Rest}
use Rattle.moo_session_line.specs.Reading.{Reads}
use Rattle.moo_session_connection.specs.declared.client.Client.{Client}
use Rattle.moo_session_connection.specs.Gathering.{Gathering}
use Rattle.moo_session_connection.specs.Clients.{number_of, newcomer, is_number, has_number, is_known_as, is_played_by, with_client, without_first, changed}
use Rattle.moo_session_connection.specs.Connections.{Connections, client_here, client_known_as, client_playing}

-- a connection is opened
abbrev pub joined : ℕ → ℕ → Connections → Connections
joined n moment s = record s { clients = with_client (newcomer n moment) s.clients }

-- the number of a connection is freed
abbrev pub freed : ℕ → Connections → Connections
freed n s = record { clients = without_first (has_number n) s.clients; leaving = without_first (is_number n) s.leaving }

-- the connection of this number, if it isn't leaving, changed
abbrev pub with_changed : ℕ → (Client → Client) → Connections → Connections
with_changed n f s = record s { clients = changed (has_number n) f s.clients }

-- the first connection that passes a test is leaving, if there is one
abbrev pub left_where : (Client → Bool) → Option Client → Connections → Connections
left_where test None s = s
left_where test (Some c) s = record { clients = without_first test s.clients; leaving = s.leaving ++ number_of c ∷ [] }

-- the connection that goes by this number is leaving
abbrev pub left_by : ℤ → Connections → Connections
left_by who s = left_where (is_known_as who) (client_known_as who s) s

-- the connection that this player is connected on is leaving
abbrev pub displaced : ℤ → Connections → Connections
displaced player s = left_where (is_played_by player) (client_playing player s) s

-- every connection is leaving
abbrev pub all_left : Connections → Connections
all_left s = record { clients = []; leaving = s.leaving ++ map number_of s.clients }

abbrev pub as_playing : ℤ → ℕ → Client → Client
as_playing player moment c = record c { connection = record c.connection { login = Some (record { player = player; moment = moment }) } }

-- A player is connected on a connection from this moment on, and on no other.
abbrev pub played : ℕ → ℤ → ℕ → Connections → Connections
played n player moment s = with_changed n (as_playing player moment) (displaced player s)

-- bytes came at this moment, and this is the rest of all of them
abbrev pub with_heard : ℕ → Rest → Client → Client
with_heard moment after c = record c { connection = record c.connection { heard = Some moment }; reader = after }

abbrev pub with_prefix : List ℕ → Client → Client
with_prefix text c = record c { prefix = text }

abbrev pub with_suffix : List ℕ → Client → Client
with_suffix text c = record c { suffix = text }

abbrev pub with_gathering : Option Gathering → Client → Client
with_gathering g c = record c { gathering = g }

-- A connection that isn't leaving has sent a piece at this moment, which ends these lines.
pub record HasHeard (n moment : ℕ) (piece : List ℕ) (s : Connections) (lines : List (List ℕ)) (s' : Connections) : Type 0 where
  pub client : Client
  pub after : Rest
  pub is_here : client_here n s ≡ Some client
  pub reads : Reads client.reader piece lines after
  pub leaves : with_changed n (with_heard moment after) s ≡ s'

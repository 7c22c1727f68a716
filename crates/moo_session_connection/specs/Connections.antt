-- The open connections of a server.
use Rattle.std.specs.Prelude.{◌≡◌, ℕ, ◌+◌, ◌<◌, ◌≤◌, ℤ, Bool, false, ◌||◌, is_some, List, [], ◌∷◌, Option, Some, find}
use Rattle.std.specs.List.{list_any, count_by}
use Rattle.moo_eval_frame.specs.Surroundings.{Surroundings}
use Rattle.moo_session_connection.specs.declared.client.Client.{Client}
use Rattle.moo_session_connection.specs.Clients.{number_of, player_on, is_number, has_number, is_known_as, is_played_by, row_of, players_on}

pub record Connections : Type 0 where
  -- those that aren't leaving, in the order of their numbers
  pub clients : List Client
  -- The numbers of those that are leaving, in the order in which they began to. Nothing else is known of a leaving
  -- connection: it has no player, goes by no number, and receives and sends nothing more.
  pub leaving : List ℕ

abbrev pub no_connections : Connections
no_connections = record { clients = []; leaving = [] }

-- the connection of this number, if it is open and not leaving
abbrev pub client_here : ℕ → Connections → Option Client
client_here n s = find (has_number n) s.clients

-- the connection that goes by this number
abbrev pub client_known_as : ℤ → Connections → Option Client
client_known_as who s = find (is_known_as who) s.clients

-- the connection that this player is connected on
abbrev pub client_playing : ℤ → Connections → Option Client
client_playing player s = find (is_played_by player) s.clients

abbrev pub is_leaving : ℕ → Connections → Bool
is_leaving n s = list_any (is_number n) s.leaving

abbrev pub is_open : ℕ → Connections → Bool
is_open n s = is_some (client_here n s) || is_leaving n s

-- the connected players, in the order of the connections
abbrev pub players_of : Connections → List ℤ
players_of s = players_on s.clients

-- these all have higher numbers
abbrev pub AreAbove : ℕ → List Client → Type 0
AreAbove n [] = Unit {0}
AreAbove n (c ∷ cs) = n < number_of c × AreAbove n cs

-- each has a higher number than those before it
abbrev pub AreInOrder : List Client → Type 0
AreInOrder [] = Unit {0}
AreInOrder (c ∷ cs) = AreAbove (number_of c) cs × AreInOrder cs

-- this player is connected on none of them
abbrev pub NonePlayedBy : ℤ → List Client → Type 0
NonePlayedBy player [] = Unit {0}
NonePlayedBy player (c ∷ cs) = is_played_by player c ≡ false × NonePlayedBy player cs

-- no player is connected on two of them
abbrev pub HaveOwnPlayers : List Client → Type 0
HaveOwnPlayers [] = Unit {0}
HaveOwnPlayers (c ∷ cs) = ((player : ℤ) → player_on c ≡ Some player → NonePlayedBy player cs) × HaveOwnPlayers cs

-- the numbers of connections are below this
abbrev pub number_limit : ℕ
number_limit = 65536

abbrev pub HaveNumbersBelowLimit : List Client → Type 0
HaveNumbersBelowLimit [] = Unit {0}
HaveNumbersBelowLimit (c ∷ cs) = number_of c < number_limit × HaveNumbersBelowLimit cs

-- how many open connections have this number, those that are leaving included
abbrev pub count_numbered : ℕ → Connections → ℕ
count_numbered n s = count_by (is_number n) s.leaving + count_by (has_number n) s.clients

-- No two open connections have the same number: a number that is leaving is there once, and no client has it.
abbrev pub HaveOwnNumbers : Connections → Type 0
HaveOwnNumbers s = (n : ℕ) → count_numbered n s ≤ 1

-- the surroundings of a task at this moment: a task sees the connections that aren't leaving
abbrev pub around : ℕ → Connections → Surroundings
around moment s = record { moment = moment; connections = row_of s.clients }

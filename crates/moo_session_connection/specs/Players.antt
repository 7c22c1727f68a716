-- The connections of players, and the connections that go by a number.
use Rattle.std.specs.Prelude.{◌≡◌, ℕ, ℤ, Bool, false, List, Option, Some, None, find, min}
use Rattle.std.specs.BTreeMap.{BTreeMap, get}
use Rattle.std.specs.Option.{option_map, option_map_or}
use Rattle.std.specs.Ordering.{int_cmp, int_eq}
use Rattle.moo_session_connection.specs.declared.client.Client.{Client}
use Rattle.moo_session_connection.specs.Clients.{number_of, own_number, is_played_by}

-- the number of the connection that this player is connected on
abbrev pub number_playing : ℤ → List Client → Option ℕ
number_playing player cs = option_map number_of (find (is_played_by player) cs)

-- a map from the players who are connected to the numbers of their connections
abbrev pub LeadsToPlayers : BTreeMap ℤ ℕ → List Client → Type 0
LeadsToPlayers players cs = (player : ℤ) → get int_cmp players player ≡ number_playing player cs

-- nobody is connected on it, and this is its own number
abbrev pub is_unplayed_as : ℤ → Client → Bool
is_unplayed_as who c = option_map_or (λ _. false) c.connection.login (int_eq who (own_number (number_of c)))

-- the earlier of two positions
abbrev pub earlier : Option ℕ → Option ℕ → Option ℕ
earlier None b = b
earlier (Some a) None = Some a
earlier (Some a) (Some b) = Some (min a b)

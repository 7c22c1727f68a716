-- One open connection that is not leaving, and rows of them.
use Rattle.std.specs.Prelude.{ℕ, ◌==◌, nat_lt, ℤ, Bool, false, List, [], ◌∷◌, map, Option, None, if◌then◌else◌}
use Rattle.std.specs.Option.{option_map, option_map_or}
use Rattle.std.specs.List.{filter_map, position_or_len, insert}
use Rattle.std.specs.Ordering.{int_eq}
use Rattle.moo_session_line.specs.Lines.{rest}
pub use Rattle.moo_eval_frame.specs.Surroundings.{own_number}
use Rattle.moo_eval_frame.specs.declared.surroundings.Connection.{Connection}
use Rattle.moo_session_connection.specs.declared.client.Client.{Client}

abbrev pub number_of : Client → ℕ
number_of c = c.connection.number

-- the player who is connected, if any
abbrev pub player_on : Client → Option ℤ
player_on c = option_map (λ login. login.player) c.connection.login

-- a connection that was opened at this moment, and has sent nothing
abbrev pub newcomer : ℕ → ℕ → Client
newcomer c moment = record {
  connection = record { number = c; login = None; opened = moment; heard = None };
  reader = rest [];
  prefix = [];
  suffix = [];
  gathering = None;
}

abbrev pub is_number : ℕ → ℕ → Bool
is_number n m = m == n

abbrev pub has_number : ℕ → Client → Bool
has_number n c = c.connection.number == n

-- The number that a connection goes by: its player's, and its own while nobody is connected on it.
abbrev pub known_as : Connection → ℤ
known_as c = option_map_or (λ login. login.player) c.login (own_number c.number)

abbrev pub is_known_as : ℤ → Client → Bool
is_known_as who c = int_eq who (known_as c.connection)

abbrev pub is_played_by : ℤ → Client → Bool
is_played_by player c = option_map_or (int_eq player) (player_on c) false

abbrev pub is_above : ℕ → Client → Bool
is_above n c = nat_lt n (number_of c)

-- with one connection more, at its position in the order of numbers
abbrev pub with_client : Client → List Client → List Client
with_client c cs = insert cs (position_or_len (is_above (number_of c)) cs) c

-- without the first that passes a test
abbrev pub without_first : {X : Type 0} → (X → Bool) → List X → List X
without_first test [] = []
without_first test (x ∷ xs) = if test x then xs else x ∷ without_first test xs

-- the first connection that passes a test changed
abbrev pub changed : (Client → Bool) → (Client → Client) → List Client → List Client
changed test f [] = []
changed test f (c ∷ cs) = if test c then f c ∷ cs else c ∷ changed test f cs

-- the part of connections that tasks see
abbrev pub row_of : List Client → List Connection
row_of cs = map (λ c. c.connection) cs

-- the connected players, in the order of the connections
abbrev pub players_on : List Client → List ℤ
players_on cs = filter_map player_on cs

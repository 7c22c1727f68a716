-- For private clauses.
use Rattle.std.specs.Prelude.{◌≡◌, ℕ, ℤ, List, Some, None}
use Rattle.moo_builtin.specs.Telling.{Faults}
use Rattle.moo_session_connection.specs.declared.client.Client.{Client}
use Rattle.moo_session_connection.specs.Gathering.{Gathering}
use Rattle.moo_session_connection.specs.Connections.{client_here}
use Rattle.moo_session_task.specs.declared.world_state.WorldState.{WorldState}
use Rattle.moo_command.specs.Words.{Words}
use Rattle.moo_session.specs.Login.{LogsIn}
use Rattle.moo_session.specs.DotProgram.{Gathers}
use Rattle.moo_session.specs.Input.{PlayerTypes, MeetsLine}

-- a login with the words of a line
pub record LogsInBy (moment : ℕ) (n : ℕ) (line : List ℕ) (s s' : WorldState) : Type 0 where
  pub words : List (List ℕ)
  pub are_its_words : Words line words
  pub logs_in : LogsIn Faults moment n words line s s'

-- a line of a connection on which a player is connected
pub data TypesAs (moment : ℕ) (n : ℕ) (client : Client) (player : ℤ) (line : List ℕ) (s : WorldState) : WorldState → Type 0 where
  as_gathered : {g : Gathering} {s' : WorldState} → client.gathering ≡ Some g → Gathers Faults n player g line s s' → TypesAs moment n client player line s s'
  as_played : {s' : WorldState} → client.gathering ≡ None → PlayerTypes Faults moment n client player line s s' → TypesAs moment n client player line s s'

-- the next line is met, or it is dropped
pub data MeetsNext (moment : ℕ) (n : ℕ) (line : List ℕ) (s : WorldState) : WorldState → Type 0 where
  drops : client_here n s.session.connections ≡ None → MeetsNext moment n line s s
  meets : {client : Client} {s' : WorldState} → client_here n s.session.connections ≡ Some client → MeetsLine Faults moment n client line s s' → MeetsNext moment n line s s'

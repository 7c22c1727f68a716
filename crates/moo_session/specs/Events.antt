-- What an opening, bytes and a hang-up do, and the calls that the server itself makes.
use Rattle.std.specs.Prelude.{◌≡◌, ℕ, ℤ, pos, Bool, List, [], ◌∷◌, codes, Option, Some, None, if◌then◌else◌}
use Rattle.std.specs.Option.{option_and_then}
use Rattle.moo_value.specs.Tree.{Tree, integer}
use Rattle.moo_world_table.specs.World.{World}
use Rattle.moo_builtin.specs.Telling.{Telling}
use Rattle.moo_session_connection.specs.Clients.{player_on}
use Rattle.moo_session_connection.specs.Connections.{Connections, client_here}
use Rattle.moo_session_connection.specs.Changes.{joined, freed, HasHeard}
use Rattle.moo_session_task.specs.declared.hook.Hook.TheVariants.{Disconnected, ClientDisconnected}
use Rattle.moo_session_task.specs.declared.world_state.WorldState.{WorldState}
use Rattle.moo_session_task.specs.Session.{Session, no_session, in_connections, caused}
use Rattle.moo_session_task.specs.State.{state, in_session}
use Rattle.moo_session_task.specs.Frames.{nobody}
use Rattle.moo_session_task.specs.Tasks.{CallsServerVerb}
use Rattle.moo_session_task.specs.Hooks.{HooksRun}
use Rattle.moo_session.specs.Login.{LogsIn}
use Rattle.moo_session.specs.Input.{MeetsLines}

-- An opening joins a connection of this number and calls `do_login_command` without words; then the hooks run.
pub record OpensConnection (T : Telling) (moment : ℕ) (n : ℕ) (s s' : WorldState) : Type 0 where
  pub greeted : WorldState
  pub logs_in : LogsIn T moment n [] [] (in_session (in_connections (joined n moment)) s) greeted
  pub hooks : HooksRun T moment greeted s'

-- with other connections
abbrev pub with_connections : Connections → WorldState → WorldState
with_connections connections s = in_session (in_connections (λ _. connections)) s

-- Bytes of a connection: the lines that they end are run. Those of a connection that isn't open, or is leaving, are
-- dropped.
pub data Hears (T : Telling) (moment : ℕ) (n : ℕ) (piece : List ℕ) (s : WorldState) : WorldState → Type 0 where
  dropped : client_here n s.session.connections ≡ None → Hears T moment n piece s s
  heard : {lines : List (List ℕ)} {after : Connections} {s' : WorldState} → HasHeard n moment piece s.session.connections lines after →
      MeetsLines T moment n lines (with_connections after s) s' → Hears T moment n piece s s'

-- if a player was connected, `user_client_disconnected` is to run
abbrev pub parted_from_client : Option ℤ → Session → Session
parted_from_client None s = s
parted_from_client (Some player) s = caused (ClientDisconnected player) s

-- who is connected on a connection
abbrev pub player_at : ℕ → Connections → Option ℤ
player_at n s = option_and_then player_on (client_here n s)

abbrev pub hung_up : ℕ → Session → Session
hung_up n s = parted_from_client (player_at n s.connections) (in_connections (freed n) s)

-- A hang-up frees the connection's number; if a player was connected on it, the hook runs.
abbrev pub HangsUp : Telling → ℕ → ℕ → WorldState → WorldState → Type 0
HangsUp T moment n s s' = HooksRun T moment (in_session (hung_up n) s) s'

-- A hook of the server's own, which has no player, and then the hooks that it causes.
pub record CallsOwnHook (T : Telling) (moment : ℕ) (name : List ℕ) (args : List Tree) (s s' : WorldState) : Type 0 where
  pub answer : Option Tree
  pub called : WorldState
  pub calls : CallsServerVerb T moment name nobody args [] s answer called
  pub hooks : HooksRun T moment called s'

-- what runs when a checkpoint is about to begin
abbrev pub CheckpointStarts : Telling → ℕ → WorldState → WorldState → Type 0
CheckpointStarts T moment = CallsOwnHook T moment (codes "checkpoint_started") []

-- what runs when a checkpoint has ended: with 1 if it was done, and 0 if it failed
abbrev pub CheckpointEnds : Telling → ℕ → Bool → WorldState → WorldState → Type 0
CheckpointEnds T moment done = CallsOwnHook T moment (codes "checkpoint_finished") (integer (if done then pos 1 else pos 0) ∷ [])

-- `user_disconnected` is to run for each of these players, one after another
abbrev pub all_parted : List ℤ → Session → Session
all_parted [] s = s
all_parted (player ∷ players) s = all_parted players (caused (Disconnected player) s)

-- A start: `user_disconnected` for each player who was connected when the world was saved, in this order, then
-- `server_started`.
pub record Starts (T : Telling) (moment : ℕ) (players : List ℤ) (w : World) (s' : WorldState) : Type 0 where
  pub parted : WorldState
  pub hooks : HooksRun T moment (state w (all_parted players no_session)) parted
  pub starts : CallsOwnHook T moment (codes "server_started") [] parted s'

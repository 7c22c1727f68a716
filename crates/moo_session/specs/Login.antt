-- How somebody connects: by what `do_login_command` answers.
use Rattle.std.specs.Prelude.{◌≡◌, ℕ, ℤ, List, codes, Option, Some, None, Bool, ◌&&◌, is_some, length, int_lt, if◌then◌else◌}
use Rattle.std.specs.Option.{unwrap_or, option_map_or}
use Rattle.moo_value.specs.Tree.{Tree, integer, object, error, string, list}
use Rattle.moo_world_table.specs.World.{World, nothing}
use Rattle.moo_world.specs.Calls.{highest}
use Rattle.moo_world.specs.Numbered.{object_numbered}
use Rattle.moo_builtin.specs.Telling.{Telling}
use Rattle.moo_eval_frame.specs.Surroundings.{own_number}
use Rattle.moo_session_connection.specs.Connections.{client_known_as, client_here}
use Rattle.moo_session_connection.specs.Changes.{played}
use Rattle.moo_session_task.specs.declared.hook.Hook.{Hook}
use Rattle.moo_session_task.specs.declared.hook.Hook.TheVariants.{Created, Connected, Reconnected}
use Rattle.moo_session_task.specs.declared.world_state.WorldState.{WorldState}
use Rattle.moo_session_task.specs.Session.{Session, in_connections, caused}
use Rattle.moo_session_task.specs.Sending.{sent, notified}
use Rattle.moo_session_task.specs.State.{in_session}
use Rattle.moo_session_task.specs.WordList.{strings_of}
use Rattle.moo_session_task.specs.Tasks.{CallsServerVerb}

-- a valid object with the player flag
abbrev pub is_player : World → ℤ → Bool
is_player w o = (unwrap_or (object_numbered w o) nothing).flags.player

-- the object that is answered, if one is
abbrev pub object_in : Option Tree → Option ℤ
object_in (Some (object o)) = Some o
object_in (Some (integer i)) = None
object_in (Some (error e)) = None
object_in (Some (string s)) = None
object_in (Some (list es)) = None
object_in None = None

-- A player who is connected already: the new connection takes the place of the old one, which is leaving.
abbrev pub redirected : ℕ → ℤ → ℕ → Session → Session
redirected n player moment s =
    caused (Reconnected player) (in_connections (played n player moment)
    (notified player (codes "*** Redirecting connection to new port ***") (sent n (codes "*** Redirecting old connection to this port ***") s)))

abbrev pub greeting : (is_new : Bool) → List ℕ
greeting is_new = if is_new then codes "*** Created ***" else codes "*** Connected ***"

abbrev pub welcoming_hook : ℤ → (is_new : Bool) → Hook
welcoming_hook player is_new = if is_new then Created player else Connected player

-- A player who was made in this call is created, any other connected.
abbrev pub welcomed : ℕ → ℤ → ℕ → (is_new : Bool) → Session → Session
welcomed n player moment is_new s = caused (welcoming_hook player is_new) (in_connections (played n player moment) (sent n (greeting is_new) s))

abbrev pub connected : ℕ → ℤ → ℕ → Bool → Session → Session
connected n player moment is_new s =
    if is_some (client_known_as player s.connections) then redirected n player moment s else welcomed n player moment is_new s

-- the highest number that was given out
abbrev pub highest_in : World → ℤ
highest_in w = highest (length w.objects)

-- Whom an answer connects: a valid object with the player flag, if the connection isn't leaving.
abbrev pub admitted : WorldState → ℕ → Option Tree → Option ℤ
admitted s n answer =
    option_map_or (λ o. if is_player s.world o && is_some (client_here n s.session.connections) then Some o else None) (object_in answer) None

abbrev pub let_in : ℕ → ℕ → ℤ → Option ℤ → Session → Session
let_in n moment before None s = s
let_in n moment before (Some player) s = connected n player moment (int_lt before player) s

-- `do_login_command` is called with these words and this line; its task ends before anybody is connected. A player is
-- new if the number is above the highest before the call.
pub record LogsIn (T : Telling) (moment : ℕ) (n : ℕ) (words : List (List ℕ)) (line : List ℕ) (s s' : WorldState) : Type 0 where
  pub answer : Option Tree
  pub asked : WorldState
  pub asks : CallsServerVerb T moment (codes "do_login_command") (own_number n) (strings_of words) line s answer asked
  pub leaves : in_session (let_in n moment (highest_in s.world) (admitted asked n answer)) asked ≡ s'

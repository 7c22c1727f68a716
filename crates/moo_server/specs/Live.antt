-- The world with its connections, as the layer of sessions that a server is over.
use Rattle.std.specs.Prelude.{◌≡◌, ℕ, ℤ, [], Bool, false, Option, None, ◌&&◌, not}
use Rattle.std.specs.Option.{option_map_or}
use Rattle.moo_dbtext_read.specs.Saved.{Saved, SpellsSavedWithin}
use Rattle.moo_dbtext.specs.Canonical.{canonical}
use Rattle.moo_builtin.specs.Telling.{Telling, Faults}
use Rattle.moo_session_connection.specs.Clients.{player_on}
use Rattle.moo_session_connection.specs.Connections.{Connections, client_here, is_open, is_leaving, players_of}
use Rattle.moo_session_connection.specs.Streams.{stream}
use Rattle.moo_session_task.specs.declared.world_state.WorldState.{WorldState}
use Rattle.moo_session_task.specs.Session.{Session}
use Rattle.moo_session_task.specs.State.{in_session}
use Rattle.moo_session_connection.specs.Outbox.{log_under_way, log_waiting, sent_under_way, sent_waiting}
use Rattle.moo_session.specs.Events.{CheckpointEnds, CheckpointStarts, HangsUp, Hears}
use Rattle.moo_session.specs.Events.{OpensConnection, Starts as StartsFrom}
use Rattle.moo_session.specs.Interval.{interval}
use Rattle.moo_server_core.specs.Application.{Input, Opens, Receives, Starts, Finishes, Layer, Meaning, Told}
use Rattle.moo_server_core.specs.Application.{HangsUp as HangsUpOn}
use Rattle.moo_server.specs.declared.moo_application.MooApplication.{MooApplication}

-- the player who is connected on the connection of this number, if any
abbrev pub player_here : Connections → ℕ → Option ℤ
player_here connections n = option_map_or player_on (client_here n connections) None

-- with nothing sent, logged or asked for
abbrev pub settled_session : Session → Session
settled_session s = record s { sent = []; log = []; asked = false }

abbrev pub settled : WorldState → WorldState
settled s = in_session settled_session s

-- What a happening came to: what was sent and logged, whether a checkpoint was asked for, and whether the server began
-- to shut down.
abbrev pub told_of : Bool → Session → Told
told_of was_closing s = record {
  out = record { sent = λ c. stream c s.sent; logged = s.log };
  asks = s.asked;
  shuts = s.closing && not was_closing;
}

-- what each happening does, if these faults may be reported for texts that are no programs
abbrev pub Becomes : Telling → Input → ℕ → WorldState → WorldState → Type 0
Becomes T (Opens c) moment old new = OpensConnection T moment c old new
Becomes T (Receives c piece) moment old new = Hears T moment c piece old new
Becomes T (HangsUpOn c) moment old new = HangsUp T moment c old new
Becomes T Starts moment old new = CheckpointStarts T moment old new
Becomes T (Finishes done) moment old new = CheckpointEnds T moment done old new

-- A happening begins with nothing sent, logged or asked for, and what it came to is moved out.
pub record LiveHappens (T : Telling) (happening : Input) (moment : ℕ) (old : WorldState) (told : Told) (new : WorldState) : Type 0 where
  pub end : WorldState
  pub becomes : Becomes T happening moment (settled old) end
  pub told_is : told ≡ told_of old.session.closing end.session
  pub new_is : new ≡ settled end

-- a start from a saved world
pub record LiveStarts (T : Telling) (saved : Saved) (moment : ℕ) (told : Told) (new : WorldState) : Type 0 where
  pub end : WorldState
  pub starts : StartsFrom T moment saved.connected saved.world end
  pub told_is : told ≡ told_of false end.session
  pub new_is : new ≡ settled end

-- The meaning of the world with its connections. What is saved is the world with the connected players, in the order of
-- their connections; its text is the canonical one.
abbrev pub live_meaning : Telling → Meaning WorldState Saved
live_meaning T = record {
  happens = LiveHappens T;
  starts = LiveStarts T;
  is_open = λ s c. is_open c s.session.connections;
  is_leaving = λ s c. is_leaving c s.session.connections;
  player_on = λ s c. player_here s.session.connections c;
  interval = λ s. interval s.world;
  saved_of = λ s. record { world = s.world; connected = players_of s.session.connections };
  text_of = canonical;
  Spells = SpellsSavedWithin;
}

abbrev pub live_layer : Layer MooApplication WorldState Saved
live_layer = record {
  meaning = live_meaning Faults;
  state = λ w. w.live;
  waiting = λ w. record { sent = sent_waiting w.outbox; logged = log_waiting w.outbox };
  under_way = λ w. record { sent = sent_under_way w.outbox; logged = log_under_way w.outbox };
}

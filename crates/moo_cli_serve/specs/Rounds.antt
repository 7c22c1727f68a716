-- What one round does, and in which order.
use Rattle.std.specs.Prelude.{◌≡◌, ◌≢◌, ◌⊎◌, true, false, ℕ, ◌≤◌, ◌<◌, List, [], ◌∷◌, ◌++◌, Option, Some, None}
use Rattle.moo_disk.specs.Disk.{DiskKind}
use Rattle.moo_dbtext_read.specs.Saved.{Saved}
use Rattle.moo_server_core.specs.Application.{Layer, Output}
use Rattle.moo_cli_sockets.specs.declared.sockets.Sockets.{Sockets}
use Rattle.moo_cli_sockets.specs.Coming.{Comes}
use Rattle.moo_cli_sockets.specs.Reading.{Arrives, IsAlike}
use Rattle.moo_server_core.specs.Courses.{phase_of}
use Rattle.moo_server_core.specs.Server.{Hands, waiting_of}
use Rattle.moo_server_core.specs.declared.event.Event.{Event}
use Rattle.moo_server_core.specs.declared.event.Event.TheVariants as the
use Rattle.moo_server_core.specs.declared.event.Phase.{Phase}
use Rattle.moo_server_core.specs.declared.event.Phase.TheVariants as phase
use Rattle.moo_server_core.specs.declared.server_core.ServerCore.{ServerCore}
use Rattle.moo_cli_serve.specs.Console.{Types, shown}
use Rattle.moo_cli_serve.specs.Course.{Given}
use Rattle.moo_cli_serve.specs.Silence.{Listens, is_silent}
use Rattle.moo_cli_serve.specs.Writing.{Writes}
use Rattle.moo_cli_serve.specs.declared.console.Console.{Console}
use Rattle.moo_cli_serve.specs.declared.serving.Serving.{Serving}

-- The server is given the clock's moment. It is given none if the clock has none, or one before the last. `before` is the last moment
-- that was given, and `now` is the last after this.
abbrev pub IsTold : Option ℕ → ℕ → ℕ → List Event → Type 0
IsTold None before now events = (events ≡ []) × (now ≡ before)
IsTold (Some moment) before now events =
    ((before ≤ moment) × (events ≡ the.Moment moment ∷ []) × (now ≡ moment)) ⊎ ((moment < before) × (events ≡ []) × (now ≡ before))

-- What is given first: what came on the sockets and from the console, the moment, a flush.
pub record Begins (old new : Sockets) (console typing : Console) (before now : ℕ) (events : List Event) : Type 0 where
  pub came : List Event
  pub typed : List Event
  pub clock : Option ℕ
  pub timed : List Event
  pub all : events ≡ (typed ++ timed) ++ the.Flush ∷ []
  pub comes : Comes old.sockets new.sockets came
  pub arrives : Arrives old new came
  pub types : Types console typing came typed
  pub told : IsTold clock before now timed

-- these events, or none if the server is closed
abbrev pub unless_closed : Phase → List Event → List Event
unless_closed phase.Closed events = []
unless_closed other events = events

module _ {S : Type 0} where
  abbrev pub IsClosed : ServerCore S → Type 0
  IsClosed server = phase_of server.halted server.course ≡ phase.Closed

module _ {S Application : Type 0} (l : Layer S Application Saved) where
  -- All lines that wait for the log are handed out, and all output that waits for the console, if there is one. No other output is.
  pub record Logs (old new : Console) (before after : ServerCore S) : Type 0 where
    pub handed : (handed : Output) × Hands l handed before after
    pub none : (waiting_of l after).logged ≡ []
    pub shows : old.is_on ≡ true → (waiting_of l after).sent 65535 ≡ []
    pub unsent : old.is_on ≡ false → (waiting_of l after).sent ≡ (waiting_of l before).sent
    pub others : (c : ℕ) → c ≢ 65535 → (waiting_of l after).sent c ≡ (waiting_of l before).sent c
    pub console_is : new ≡ shown l before old

module _ {S Application D : Type 0} (l : Layer S Application Saved) (kind : DiskKind D) where
  -- A server that isn't closed is given these events.
  abbrev pub GivenIfOpen : ServerCore S → D → List Event → ServerCore S → D → Type 0
  GivenIfOpen before old events after new =
      (IsClosed before × (after ≡ before) × (new ≡ old)) ⊎ ((IsClosed before → ⊥) × Given l kind before old events after new)

  -- A round: what comes on the sockets and from the console, the moment and a flush are given to the server; one write goes to each socket;
  -- and the hang-ups that come of it are given to the server, unless it is closed. All this is in a second of a clock that is never set. The
  -- limits stay.
  pub record Rounds (old new : Serving S D) : Type 0 where
    pub first : List Event
    pub read : Sockets
    pub begins : Begins old.clients.sockets read old.console new.console old.moment new.moment first
    pub second : ℕ
    pub listens : Listens second first old.timeouts.silence new.timeouts.silence
    pub given : ServerCore S
    pub between : D
    pub gives : Given l kind old.server old.disk first given between
    pub parted : List Event
    pub written : ServerCore S
    pub writes : Writes l old.clients.most_waiting (is_silent new.timeouts.silence second) given written read.sockets new.clients.sockets.sockets parted
    pub alike : IsAlike read new.clients.sockets
    pub handed : (handed : Output) × Hands l handed given written
    pub ends : GivenIfOpen written between parted new.server new.disk
    pub most_is : new.clients.most_waiting ≡ old.clients.most_waiting
    pub logins_are : new.timeouts.strangers.limits ≡ old.timeouts.strangers.limits

  -- the events that a round gave to the server
  abbrev pub given_in : {old new : Serving S D} → Rounds old new → List Event
  given_in rounds = rounds.first ++ unless_closed (phase_of rounds.written.halted rounds.written.course) rounds.parted

-- A stop at some moment of what a server did over a disk, and what a start over what it left finds.
use Rattle.std.specs.Prelude.{◌≡◌, ℕ, List, [], ◌∷◌, ◌++◌}
use Rattle.moo_disk.specs.Disk.{DiskKind}
use Rattle.moo_dbtext_read.specs.Saved.{Saved}
use Rattle.moo_server_core.specs.Application.{Layer}
use Rattle.moo_server_core.specs.Meaning.{Entry}
use Rattle.moo_server_core.specs.Calls.{Call, Lent, StartsAgain, lent}
use Rattle.moo_server_core.specs.Server.{state_of}
use Rattle.moo_server_core.specs.declared.event.Event.{Event}
use Rattle.moo_server_core.specs.declared.server_core.ServerCore.{ServerCore}
use Rattle.moo_cli_serve.specs.Course.{Course}
use Rattle.moo_cli_serve.specs.Service.{Begun, Serves, Stops, events_in}
use Rattle.moo_cli_serve.specs.declared.fault.ServeFault.{ServeFault}
use Rattle.moo_cli_serve.specs.declared.limits.Limits.{Limits}
use Rattle.moo_cli_serve.specs.declared.serving.Serving.{Serving}

module _ {S D : Type 0} where
  -- the entries of the events of these calls
  abbrev pub entries_in : List (Call S (Lent D D)) → List (Entry Saved)
  entries_in [] = []
  entries_in (call ∷ calls) = call.entries ++ entries_in calls

  -- the disk's clock as the last of these calls returned, or, if there is none, that from which it is counted
  abbrev pub clock_after : DiskKind D → ℕ → List (Call S (Lent D D)) → ℕ
  clock_after kind clock [] = clock
  clock_after kind clock (call ∷ calls) = clock_after kind ((lent kind kind).view call.disk).clock calls

module _ {S Application D : Type 0} (l : Layer S Application Saved) (kind : DiskKind D) where
  -- A stop at some moment of a course, inside a call of the disk too, leaves this text under main. The calls `returned` had returned by then. If
  -- none had, the moment is any since the start began over the disk `first`.
  pub record IsStopped (first : D) {before : ServerCore S} {old : D} {events : List Event} {after : ServerCore S} {new : D} (course : Course l kind before old events after new) (text : List ℕ) : Type 0 where
    pub returned : List (Call S (Lent D D))
    pub others : List (Call S (Lent D D))
    pub all : course.calls ≡ returned ++ others
    pub left : (kind.view new).left_since (clock_after kind (kind.view first).clock returned) text

  -- A server was begun over the disk `first` and served, and was stopped at some moment, which left this text under main.
  pub record ServedTo (first : D) (limits : Limits) (text : List ℕ) : Type 0 where
    pub start : Serving S D
    pub end : Serving S D
    pub begun : Begun l kind first limits start
    pub events : List Event
    pub course : Course l kind start.server start.disk events end.server end.disk
    pub stopped : IsStopped first course text

  -- Whoever served to the end was stopped at each moment before it.
  abbrev pub served_to : {first : D} {limits : Limits} {rounds : ℕ} {text : List ℕ} (serves : Serves l kind first limits rounds)
      → IsStopped first serves.course text → ServedTo first limits text
  served_to serves stopped = record {
    start = serves.start;
    end = serves.end;
    begun = serves.begun;
    events = events_in l kind serves.served.made serves.start serves.end serves.served.makes;
    course = serves.course;
    stopped = stopped;
  }

  -- So was one that ended before, for a fault.
  abbrev pub ended_at : {first : D} {limits : Limits} {rounds : ℕ} {fault : ServeFault} {text : List ℕ} (stops : Stops l kind first limits rounds fault)
      → IsStopped first stops.course text → ServedTo first limits text
  ended_at stops stopped = record { start = stops.start; end = stops.end; begun = stops.begun; events = stops.events; course = stops.course; stopped = stopped }

  module _ {E : Type 0} (kind' : DiskKind E) where
    -- Over such a disk a start finds the saved world after a prefix of the events that ends with a mark. The prefix holds every event before the
    -- mark of the last report done of a call that had returned. If there was no such report, it may find the world that was read at first.
    abbrev pub FindsAgain : {first : D} {limits : Limits} {text : List ℕ} (served : ServedTo first limits text) (found : E) → Type 0
    FindsAgain served found =
        StartsAgain l kind' (state_of l served.start.server) served.begun.from.saved (entries_in served.stopped.returned) (entries_in served.stopped.others) found

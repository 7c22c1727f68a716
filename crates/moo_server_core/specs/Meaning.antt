-- What a list of events does, over any application. In which `Flush` a checkpoint is reported, and whether it is done or failed, is
-- free here.
use Rattle.std.specs.Prelude.{◌≡◌, ℕ, ◌+◌, nat_lt, nat_le, List, [], ◌∷◌, map, Option, Some, None, is_none, Bool, true, false, if◌then◌else◌, ◌&&◌, ◌||◌, not, MatchBool}
use Rattle.std.specs.Option.{option_map}
use Rattle.moo_server_core.specs.Traces.{Report, Done, Failed, Trace}
use Rattle.moo_server_core.specs.Courses.{is_closing, is_closed}
use Rattle.moo_server_core.specs.Seen.{Event, Open, Bytes, Hangup, Moment, Flush, is_flush}
use Rattle.moo_server_core.specs.Application.{Input, Opens, Receives, HangsUp, Starts, Finishes, Output, silence, then_out, Told, Meaning}
use Rattle.moo_server_core.specs.declared.event.Course.{Course}
use Rattle.moo_server_core.specs.declared.event.Course.TheVariants.{Running, Closing, Closed}
use Rattle.moo_server_core.specs.declared.event.Cause.{Cause}
use Rattle.moo_server_core.specs.declared.event.Cause.TheVariants.{NoSuchConnection, ConnectionInUse, ClockBack}
use Rattle.moo_server_core.specs.declared.event.Cause.TheVariants.{Closed as closed_cause}

pub record State (Application : Type 0) : Type 0 where
  -- the world, with its connections
  pub sessions : Application
  pub moment : ℕ
  -- a checkpoint is due at this moment
  pub due : ℕ
  -- one is asked for
  pub asked : Bool
  pub course : Course
  -- if a checkpoint is open, whether it began at or after the first shutdown
  pub writing : Option Bool

-- an event, its report, the saved world that it marks, and its output
pub record Entry (Saved : Type 0) : Type 0 where
  pub event : Event
  pub report : Option Report
  pub mark : Option Saved
  pub out : Output

abbrev pub is_done : Report → Bool
is_done Done = true
is_done Failed = false

-- what the disk sees of an entry
abbrev pub trace_of : {Saved : Type 0} → (Saved → List ℕ) → Entry Saved → Trace
trace_of text_of entry = record { flush = is_flush entry.event; report = entry.report; mark = option_map text_of entry.mark }

abbrev pub traces_of : {Saved : Type 0} → (Saved → List ℕ) → List (Entry Saved) → List Trace
traces_of text_of entries = map (trace_of text_of) entries

-- the output of all of them
abbrev pub out_of : {Saved : Type 0} → List (Entry Saved) → Output
out_of [] = silence
out_of (entry ∷ entries) = then_out entry.out (out_of entries)

-- the state after an input to the application: a request is noted, and a shutdown makes the server close
abbrev pub heard : {Application : Type 0} → State Application → Told → Application → State Application
heard old told sessions = record old {
  sessions = sessions;
  asked = told.asks || (told.shuts || old.asked);
  course = if told.shuts then Closing else old.course;
}

-- the state after the hooks of a start
abbrev pub begun_at : {Application : Type 0} → ℕ → Bool → Course → ℕ → Application → State Application
begun_at moment asked course interval sessions = record {
  sessions = sessions;
  moment = moment;
  due = moment + interval;
  asked = asked;
  course = course;
  writing = None;
}

-- the state at the moment of an event: another one only if the event is a moment
abbrev pub at_moment_of : {Application : Type 0} → Event → State Application → State Application
at_moment_of (Moment moment) state = record state { moment = moment }
at_moment_of event state = state

module _ {Application Saved : Type 0} (m : Meaning Application Saved) where
  -- the reason why an event is refused, if it is
  abbrev pub refusal_in : Course → ℕ → Application → Event → Option Cause
  refusal_in Closed now sessions event = Some closed_cause
  refusal_in Closing now sessions event = None
  refusal_in Running now sessions (Open c) = if m.is_open sessions c then Some ConnectionInUse else None
  refusal_in Running now sessions (Bytes c piece) = if m.is_open sessions c then None else Some NoSuchConnection
  refusal_in Running now sessions (Hangup c) = if m.is_open sessions c then None else Some NoSuchConnection
  refusal_in Running now sessions (Moment moment) = if nat_lt moment now then Some ClockBack else None
  refusal_in Running now sessions Flush = None

  abbrev pub refusal : State Application → Event → Option Cause
  refusal state event = refusal_in state.course state.moment state.sessions event

  -- a connection opens under a number that no connection has
  abbrev pub FindsFree : State Application → Event → Type 0
  FindsFree state (Open c) = m.is_open state.sessions c ≡ false
  FindsFree state event = Unit {0}

  -- the application is given an input
  abbrev pub Hears : Input → State Application → Output → State Application → Type 0
  Hears happening old out new =
      (told : Told) × (sessions : Application) × m.happens happening old.moment old.sessions told sessions
      × (out ≡ told.out) × (new ≡ heard old told sessions)

  -- the event's own effect
  abbrev pub Acts : Event → State Application → Output → State Application → Type 0
  Acts (Open c) old out new = Hears (Opens c) old out new
  Acts (Bytes c piece) old out new = Hears (Receives c piece) old out new
  Acts (Hangup c) old out new = Hears (HangsUp c) old out new
  Acts (Moment moment) old out new = (out ≡ silence) × (new ≡ record old { moment = moment })
  Acts Flush old out new = (out ≡ silence) × (new ≡ old)

  -- A report closes the open checkpoint and runs `checkpoint_finished`. If the checkpoint began at or after the first shutdown, the
  -- server is closed.
  abbrev pub Reports : Event → Option Report → State Application → Output → State Application → Type 0
  Reports event None old out new = (out ≡ silence) × (new ≡ old)
  Reports event (Some report) old out new =
      (event ≡ Flush) × (last : Bool) × (old.writing ≡ Some last)
      × (mid : State Application) × Hears (Finishes (is_done report)) (record old { writing = None }) out mid
      × (new ≡ record mid { course = if last then Closed else mid.course })

  -- a checkpoint is due
  abbrev pub is_due : State Application → Bool
  is_due state = not (is_closed state.course) && is_none state.writing && (state.asked || nat_le state.due state.moment)

  -- An event whose own effect needs no memory: bytes for a connection that is leaving, a moment, and a `Flush` while no checkpoint is open.
  abbrev pub acts_without_memory : State Application → Event → Bool
  acts_without_memory state (Bytes c piece) = m.is_leaving state.sessions c
  acts_without_memory state (Moment moment) = true
  acts_without_memory state Flush = is_none state.writing
  acts_without_memory state event = false

  -- such an event, if no checkpoint is due then: it needs no memory at all
  abbrev pub is_idle : State Application → Event → Bool
  is_idle state event = acts_without_memory state event && not (is_due (at_moment_of event state))

  -- `checkpoint_started` runs; then the request is cleared, the due moment is set, and the world is marked as it then is.
  abbrev pub Marks : Option Saved → State Application → Output → State Application → Type 0
  Marks None old out new = (is_due old ≡ false) × (out ≡ silence) × (new ≡ old)
  Marks (Some saved) old out new =
      (is_due old ≡ true) × (mid : State Application) × Hears Starts old out mid
      × (new ≡ record mid { due = mid.moment + m.interval mid.sessions; asked = false; writing = Some (is_closing mid.course) })
      × (saved ≡ m.saved_of new.sessions)

  -- the event's own effect, perhaps a report, perhaps a mark
  pub record Steps (old : State Application) (entry : Entry Saved) (new : State Application) : Type 0 where
    pub acted : State Application
    pub reported : State Application
    pub own : Output
    pub finished : Output
    pub started : Output
    pub acts : Acts entry.event old own acted
    pub reports : Reports entry.event entry.report acted finished reported
    pub marks : Marks entry.mark reported started new
    pub out : entry.out ≡ then_out own (then_out finished started)

  -- while the server closes, an event other than `Flush` changes nothing
  abbrev pub is_passed_over : State Application → Event → Bool
  is_passed_over state event = is_closing state.course && not (is_flush event)

  -- an event has no effect
  pub record Passes (old : State Application) (entry : Entry Saved) (new : State Application) : Type 0 where
    pub same : new ≡ old
    pub report : entry.report ≡ None
    pub mark : entry.mark ≡ None
    pub out : entry.out ≡ silence

  -- An event that may need memory: it is neither refused nor passed over. While no checkpoint is due, it is no bytes for a connection that
  -- is leaving, no moment, and no `Flush` without an open checkpoint.
  abbrev pub MayWant : State Application → Event → Type 0
  MayWant state event = (refusal state event ≡ None) × (is_passed_over state event ≡ false) × (is_idle state event ≡ false)

  -- what one event does that is taken
  pub record Takes (old : State Application) (entry : Entry Saved) (new : State Application) : Type 0 where
    pub accepted : refusal old entry.event ≡ None
    pub takes : MatchBool (is_passed_over old entry.event) (Passes old entry new) (Steps old entry new)

  -- what events do, one after another
  abbrev pub Run : State Application → List (Entry Saved) → State Application → Type 0
  Run old [] new = new ≡ old
  Run old (entry ∷ entries) new = (mid : State Application) × Takes old entry mid × Run mid entries new

  -- The start from a saved world at a moment: hooks run, and then the due moment is set.
  pub record Begins (saved : Saved) (moment : ℕ) (out : Output) (state : State Application) : Type 0 where
    pub told : Told
    pub sessions : Application
    pub starts : m.starts saved moment told sessions
    pub out_is : out ≡ told.out
    pub state_is : state ≡ begun_at moment (told.asks || told.shuts) (if told.shuts then Closing else Running) (m.interval sessions) sessions

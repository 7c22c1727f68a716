-- What a server may come to by one telling it may come to by one that tells more.
use Rattle.std.proofs.Common.{ℕ, List, [], ◌∷◌, Option, Some, None, Bool, true, false}
use Rattle.std.specs.Prelude.{MatchBool}
use Rattle.moo_dbtext_read.specs.Saved.{Saved}
use Rattle.moo_builtin.specs.Telling.{Telling}
use Rattle.moo_session_task.specs.declared.world_state.WorldState.{WorldState}
use Rattle.moo_server_core.specs.Application.{Input, Opens, Receives, HangsUp, Starts, Finishes, Output, Told}
use Rattle.moo_server_core.specs.Traces.{Report}
use Rattle.moo_server_core.specs.Seen.{Event, Open, Bytes, Hangup, Moment, Flush}
use Rattle.moo_server_core.specs.Meaning.{Acts, Begins, Entry, Hears, Marks, Passes, Reports, Run, State, Steps, Takes, is_done, is_passed_over}
use Rattle.moo_server_law.specs.Sessions.{AreWithin}
use Rattle.moo_server.specs.Live.{Becomes, LiveHappens, LiveStarts, live_meaning, settled}

-- the layer
becoming_within : (T U : Telling) → AreWithin T U → (happening : Input) (moment : ℕ) (old end : WorldState) → Becomes T happening moment old end → Becomes U happening moment old end
becoming_within T U within (Opens c) moment old end d = within.openings moment c old end d
becoming_within T U within (Receives c piece) moment old end d = within.bytes moment c piece old end d
becoming_within T U within (HangsUp c) moment old end d = within.hangups moment c old end d
becoming_within T U within Starts moment old end d = within.checkpoints moment old end d
becoming_within T U within (Finishes done) moment old end d = within.reports moment done old end d

happening_within : (T U : Telling) → AreWithin T U → (happening : Input) (moment : ℕ) (old : WorldState) (told : Told) (new : WorldState)
    → LiveHappens T happening moment old told new → LiveHappens U happening moment old told new
happening_within T U within happening moment old told new d = record {
  end = d.end;
  becomes = becoming_within T U within happening moment (settled old) d.end d.becomes;
  told_is = d.told_is;
  new_is = d.new_is;
}

start_within : (T U : Telling) → AreWithin T U → (saved : Saved) (moment : ℕ) (told : Told) (new : WorldState) → LiveStarts T saved moment told new → LiveStarts U saved moment told new
start_within T U within saved moment told new d = record {
  end = d.end;
  starts = within.starts moment saved.connected saved.world d.end d.starts;
  told_is = d.told_is;
  new_is = d.new_is;
}

-- an event
hearing_within : (T U : Telling) → AreWithin T U → (happening : Input) (old : State WorldState) (out : Output) (new : State WorldState)
    → Hears (live_meaning T) happening old out new → Hears (live_meaning U) happening old out new
hearing_within T U within happening old out new d =
    (d.0, d.1, happening_within T U within happening old.moment old.sessions d.0 d.1 d.2, d.3, d.4)

acts_within : (T U : Telling) → AreWithin T U → (event : Event) (old : State WorldState) (out : Output) (new : State WorldState)
    → Acts (live_meaning T) event old out new → Acts (live_meaning U) event old out new
acts_within T U within (Open c) old out new d = hearing_within T U within (Opens c) old out new d
acts_within T U within (Bytes c piece) old out new d = hearing_within T U within (Receives c piece) old out new d
acts_within T U within (Hangup c) old out new d = hearing_within T U within (HangsUp c) old out new d
acts_within T U within (Moment moment) old out new d = d
acts_within T U within Flush old out new d = d

reports_within : (T U : Telling) → AreWithin T U → (event : Event) (report : Option Report) (old : State WorldState) (out : Output) (new : State WorldState)
    → Reports (live_meaning T) event report old out new → Reports (live_meaning U) event report old out new
reports_within T U within event None old out new d = d
reports_within T U within event (Some report) old out new d =
    (d.0, d.1, d.2, d.3, hearing_within T U within (Finishes (is_done report)) (record old { writing = None }) out d.3 d.4, d.5)

marks_within : (T U : Telling) → AreWithin T U → (mark : Option Saved) (old : State WorldState) (out : Output) (new : State WorldState)
    → Marks (live_meaning T) mark old out new → Marks (live_meaning U) mark old out new
marks_within T U within None old out new d = d
marks_within T U within (Some saved) old out new d = (d.0, d.1, hearing_within T U within Starts old out d.1 d.2, d.3, d.4)

passing_within : (T U : Telling) (old : State WorldState) (entry : Entry Saved) (new : State WorldState) → Passes (live_meaning T) old entry new → Passes (live_meaning U) old entry new
passing_within T U old entry new d = record { same = d.same; report = d.report; mark = d.mark; out = d.out }

step_within : (T U : Telling) → AreWithin T U → (old : State WorldState) (entry : Entry Saved) (new : State WorldState) → Steps (live_meaning T) old entry new → Steps (live_meaning U) old entry new
step_within T U within old entry new d = record {
  acted = d.acted;
  reported = d.reported;
  own = d.own;
  finished = d.finished;
  started = d.started;
  acts = acts_within T U within entry.event old d.own d.acted d.acts;
  reports = reports_within T U within entry.event entry.report d.acted d.finished d.reported d.reports;
  marks = marks_within T U within entry.mark d.reported d.started new d.marks;
  out = d.out;
}

either_within : (b : Bool) {A B C D : Type 0} → (A → C) → (B → D) → MatchBool b A B → MatchBool b C D
either_within true f g x = f x
either_within false f g x = g x

taking_within : (T U : Telling) → AreWithin T U → (old : State WorldState) (entry : Entry Saved) (new : State WorldState) → Takes (live_meaning T) old entry new → Takes (live_meaning U) old entry new
taking_within T U within old entry new d = record {
  accepted = d.accepted;
  takes = either_within (is_passed_over (live_meaning T) old entry.event) (passing_within T U old entry new) (step_within T U within old entry new) d.takes;
}

-- events, one after another
run_within : (T U : Telling) → AreWithin T U → (entries : List (Entry Saved)) (old new : State WorldState) → Run (live_meaning T) old entries new → Run (live_meaning U) old entries new
run_within T U within [] old new d = d
run_within T U within (entry ∷ entries) old new d = (d.0, taking_within T U within old entry d.0 d.1, run_within T U within entries d.0 new d.2)

pub runs_within : (T U : Telling) → AreWithin T U → (saved : Saved) (moment : ℕ) (out : Output) (start end : State WorldState) (entries : List (Entry Saved))
    → Begins (live_meaning T) saved moment out start → Run (live_meaning T) start entries end
    → Begins (live_meaning U) saved moment out start × Run (live_meaning U) start entries end
runs_within T U within saved moment out start end entries begins run = (
  record { told = begins.told; sessions = begins.sessions; starts = start_within T U within saved moment begins.told begins.sessions begins.starts; out_is = begins.out_is; state_is = begins.state_is },
  run_within T U within entries start end run,
)

-- The state of a server, and what a run does to it and to its disk.
use Rattle.std.specs.Prelude.{◌≡◌, ◌≢◌, ◌⊎◌, ◌-◌, ℕ, List, [], ◌∷◌, length, take, map, slice_get, Result, Ok, Err, IfErr, Option, Some, None, Bool, true, false, eqb, if◌then◌else◌}
use Rattle.std.specs.Option.{option_map}
use Rattle.moo_disk.specs.Disk.{Append, DiskKind, HasRisen}
use Rattle.moo_checkpoint.specs.Checkpoint.{AppendsAPiece, Continues, IsFresh, IsNextCall, MakesNextCall, text_of, turns_left}
use Rattle.moo_server_core.specs.Traces.{Report, Done, Trace}
use Rattle.moo_server_core.specs.Crash.{IsOneOf, Survives}
use Rattle.moo_server_core.specs.Turns.{CountsReport, FailsAtMostOnce, IsInTime, turns_after, turns_left_after, turns_for}
use Rattle.moo_server_core.specs.Seen.{Flush, seen}
use Rattle.moo_server_core.specs.Application.{Layer, Meaning, Output, silence, then_out}
use Rattle.moo_server_core.specs.Meaning.{State, Entry, Reports, Takes, Run, MayWant, refusal, trace_of, traces_of}
use Rattle.moo_server_core.specs.declared.event.Event as given
use Rattle.moo_server_core.specs.declared.event.Cause.{Cause}
use Rattle.moo_server_core.specs.declared.event.Cause.TheVariants.{Memory, Halted as halted_cause}
use Rattle.moo_server_core.specs.declared.event.RunFault.{RunFault}
use Rattle.moo_server_core.specs.declared.server_core.Open.{Open}
use Rattle.moo_server_core.specs.declared.server_core.ServerCore.{ServerCore}

-- it isn't halted
abbrev pub IsAlive : {S : Type 0} → ServerCore S → Type 0
IsAlive server = server.halted ≡ false

abbrev pub is_last_of : Option Open → Option Bool
is_last_of writing = option_map (λ o. o.is_last) writing

-- the texts of the open checkpoint: one or none
abbrev pub text_of_open : Option Open → List (List ℕ)
text_of_open None = []
text_of_open (Some o) = text_of o.checkpoint ∷ []

-- the turns that it still takes, 0 if none is open
abbrev pub turns_of : Option Open → ℕ
turns_of None = 0
turns_of (Some o) = turns_left o.checkpoint

-- the text that is on its way to the disk, if there is one
abbrev pub on_its_way : {S : Type 0} → ServerCore S → List (List ℕ)
on_its_way server = text_of_open server.writing

abbrev pub OpenFollows : {D : Type 0} → DiskKind D → Option Open → D → Type 0
OpenFollows kind None disk = Unit {0}
OpenFollows kind (Some o) disk = Continues kind o.checkpoint disk

-- A checkpoint took its next turn: one call of the disk, which the turns left say. If the device didn't fail, an append was a whole piece, or
-- all that was left of the text.
pub record TakesTurn {D : Type 0} (kind : DiskKind D) (o : Open) (old new : D) : Type 0 where
  pub call : MakesNextCall kind (length (text_of o.checkpoint)) (turns_left o.checkpoint) old new
  pub appends : kind.honest old → (HasRisen (kind.failures old) (kind.failures new) → ⊥)
      → IsNextCall Append (length (text_of o.checkpoint)) (turns_left o.checkpoint) → AppendsAPiece (text_of o.checkpoint) (kind.view old) (kind.view new)

-- so did the open checkpoint; if none is open, no call was made
abbrev pub MakesCallOf : {D : Type 0} → DiskKind D → Option Open → D → D → Type 0
MakesCallOf kind None old new = new ≡ old
MakesCallOf kind (Some o) old new = TakesTurn kind o old new

-- A `Flush` that halted the server made that call. If a checkpoint was open, the call was its last, or the device failed in it.
pub record HaltsInTurn {D : Type 0} (kind : DiskKind D) (writing : Option Open) (old new : D) : Type 0 where
  pub call : MakesCallOf kind writing old new
  pub over : writing ≢ None → (turns_of writing ≡ 1) ⊎ HasRisen (kind.failures old) (kind.failures new)

-- how many events a run took
abbrev pub done_of : Result ℕ RunFault → ℕ
done_of (Ok done) = done
done_of (Err fault) = fault.done

-- a server with its disk
pub record WithDisk (S D : Type 0) : Type 0 where
  pub server : ServerCore S
  pub disk : D

abbrev pub with_disk : {S D : Type 0} → ServerCore S → D → WithDisk S D
with_disk server disk = record { server = server; disk = disk }

-- an event that a run took, with the server and the disk as it left them
pub record TakenEvent (S Saved D : Type 0) : Type 0 where
  pub entry : Entry Saved
  pub server : ServerCore S
  pub disk : D

abbrev pub entries_of : {S Saved D : Type 0} → List (TakenEvent S Saved D) → List (Entry Saved)
entries_of taken = map (λ one. one.entry) taken

-- From such a disk on, the device failed in each event that reports a checkpoint as failed, and in no other.
abbrev pub FailsAsReported : {S Saved D : Type 0} → DiskKind D → D → List (TakenEvent S Saved D) → Type 0
FailsAsReported kind disk [] = Unit {0}
FailsAsReported kind disk (one ∷ taken) =
    CountsReport one.entry.report (kind.failures disk) (kind.failures one.disk) × FailsAsReported kind one.disk taken

-- output of bytes for one number alone, and of lines for the log alone
abbrev pub sent_alone : ℕ → List ℕ → Output
sent_alone c bytes = record { sent = λ k. if eqb k c then bytes else []; logged = [] }

abbrev pub logged_alone : List (List ℕ) → Output
logged_alone lines = record { sent = λ k. []; logged = lines }

module _ {Application Saved : Type 0} (m : Meaning Application Saved) where
  -- what the disk sees of entries
  abbrev pub traces_under : List (Entry Saved) → List Trace
  traces_under entries = traces_of m.text_of entries

  -- what a mark does to the open checkpoint
  abbrev pub Opens : Option Saved → Option Open → Option Open → Type 0
  Opens None old new = new ≡ old
  Opens (Some saved) old new =
      (o : Open) × (new ≡ Some o) × IsFresh o.checkpoint × (text_of o.checkpoint ≡ m.text_of saved)
      × (turns_left o.checkpoint ≡ turns_for (m.text_of saved))

  -- a mark's text spells the world that is marked
  abbrev pub MarkSpells : Option Saved → Type 0
  MarkSpells None = Unit {0}
  MarkSpells (Some saved) = m.Spells (m.text_of saved) saved

  abbrev pub MarksSpell : List (Entry Saved) → Type 0
  MarksSpell [] = Unit {0}
  MarksSpell (entry ∷ entries) = MarkSpells entry.mark × MarksSpell entries

  -- What a turn of the open checkpoint does, with this report.
  pub record Turns {D : Type 0} (kind : DiskKind D) (before after : State Application) (was is : Option Open) (old new : D) (report : Option Report) (out : Output) : Type 0 where
    pub reports : Reports m Flush report before out after
    pub unreported : report ≡ None → text_of_open is ≡ text_of_open was
    pub one_less : report ≡ None → (turns_of is ≡ turns_of was - 1) × (turns_of was ≢ 1)
    pub reported : report ≢ None → is ≡ None
    pub done : report ≡ Some Done → kind.honest old → (c : List ℕ) → (kind.view new).may_leave c → IsOneOf (text_of_open was) c
    pub last : report ≡ Some Done → turns_of was ≡ 1
    pub counts : CountsReport report (kind.failures old) (kind.failures new)

  -- What one event does to the state, the open checkpoint and the disk. It is taken as this entry.
  pub record Does {D : Type 0} (kind : DiskKind D) (before after : State Application) (was is : Option Open) (old new : D) (entry : Entry Saved) : Type 0 where
    pub takes : Takes m before entry after
    pub spelled : MarkSpells entry.mark
    -- what a crash may leave, after the event and at any moment within it
    pub survives : kind.honest old → Survives kind old new (text_of_open was) (text_of_open is) (trace_of m.text_of entry ∷ [])
    -- a report done leaves the checkpoint's text alone
    pub done : kind.honest old → entry.report ≡ Some Done → (c : List ℕ) → (kind.view new).may_leave c → IsOneOf (text_of_open was) c
    -- the report of a checkpoint comes in its last turn, or in an earlier one in which the device failed
    pub in_time : IsInTime (turns_of was) (trace_of m.text_of entry ∷ [])
    pub turns : turns_of is ≡ turns_after (turns_of was) (trace_of m.text_of entry)

module _ {S Application Saved : Type 0} (l : Layer S Application Saved) where
  abbrev pub state_of : ServerCore S → State Application
  state_of server = record {
    sessions = l.state server.sessions;
    moment = server.moment;
    due = server.due;
    asked = server.asked;
    course = server.course;
    writing = is_last_of server.writing;
  }

  -- the output that waits to be taken
  abbrev pub waiting_of : ServerCore S → Output
  waiting_of server = l.waiting server.sessions

  -- the output of the event that is being taken
  abbrev pub under_way_of : ServerCore S → Output
  under_way_of server = l.under_way server.sessions

  -- No event is being taken, and the disk is as the last call left it, perhaps in a wrapper now.
  pub record Follows {D : Type 0} (kind : DiskKind D) (now : WithDisk S D) : Type 0 where
    pub still : under_way_of now.server ≡ silence
    pub continues : OpenFollows kind now.server.writing now.disk

  -- What events did, one after another, in however many calls they came, and what a crash may leave.
  pub record Lived {D : Type 0} (kind : DiskKind D) (from to : WithDisk S D) (entries : List (Entry Saved)) : Type 0 where
    pub end : State Application
    pub run : Run l.meaning (state_of from.server) entries end
    pub state : IsAlive to.server → state_of to.server ≡ end
    -- each mark's text spells the world that is marked
    pub spelled : MarksSpell l.meaning entries
    -- what a crash may leave, at the end and at any moment since the start
    pub survives : kind.honest from.disk → Survives kind from.disk to.disk (on_its_way from.server) (on_its_way to.server) (traces_under l.meaning entries)
    -- the report of a checkpoint comes in its last turn, or in an earlier one in which the device failed
    pub in_time : IsInTime (turns_of from.server.writing) (traces_under l.meaning entries)
    pub turns : IsAlive to.server → turns_of to.server.writing ≡ turns_left_after (turns_of from.server.writing) (traces_under l.meaning entries)
    -- a halted server does nothing
    pub rests : from.server.halted ≡ true → (entries ≡ []) × (to.server.halted ≡ true)

  module _ {D : Type 0} (kind : DiskKind D) where
    -- What one event did to a server and its disk.
    pub record DoesTo (from : WithDisk S D) (one : TakenEvent S Saved D) : Type 0 where
      pub alive_before : IsAlive from.server
      pub alive_after : IsAlive one.server
      pub does : Does l.meaning kind (state_of from.server) (state_of one.server) from.server.writing one.server.writing from.disk one.disk one.entry
      -- what it sent waits, after what waited before, and nothing else does
      pub waiting : waiting_of one.server ≡ then_out (waiting_of from.server) one.entry.out
      -- only a `Flush` makes a call of the disk, and only while a checkpoint is open; then it makes the one of the next turn
      pub still : (one.entry.event ≢ Flush) ⊎ (from.server.writing ≡ None) → one.disk ≡ from.disk
      pub call : one.entry.event ≡ Flush → MakesCallOf kind from.server.writing from.disk one.disk
      pub honest_still : kind.honest from.disk → kind.honest one.disk

    -- Each of these events did so, one after another: they lead from a server and its disk to another state of both.
    abbrev pub EachDoes : WithDisk S D → List (TakenEvent S Saved D) → WithDisk S D → Type 0
    EachDoes from [] to = (to.server ≡ from.server) × (to.disk ≡ from.disk)
    EachDoes from (one ∷ taken) to = DoesTo from one × EachDoes (with_disk one.server one.disk) taken to

    -- An event halted the server. Nothing of what it sent waits, and it made the call of the next turn or none.
    pub record Halts (from to : WithDisk S D) : Type 0 where
      pub alive_before : IsAlive from.server
      pub halted : to.server.halted ≡ true
      pub waiting : waiting_of to.server ≡ waiting_of from.server
      pub survives : kind.honest from.disk → Survives kind from.disk to.disk (on_its_way from.server) (on_its_way to.server) []
      pub calls : (to.disk ≡ from.disk) ⊎ MakesCallOf kind from.server.writing from.disk to.disk

    -- A run took the first `done` events.
    pub record Ran (from to : WithDisk S D) (events : List given.Event) (done : ℕ) : Type 0 where
      -- the events that were taken, with their reports and marks, what went out, and what the server and the disk then were
      pub taken : List (TakenEvent S Saved D)
      pub events_are : map (λ entry. entry.event) (entries_of taken) ≡ map seen (take done events)
      -- the server and the disk as the last of them left them
      pub reached : ServerCore S
      pub disk : D
      pub each : EachDoes from taken (with_disk reached disk)
      -- nothing else was done, or a further event halted the server
      pub ends : ((to.server ≡ reached) × (to.disk ≡ disk)) ⊎ Halts (with_disk reached disk) to

  -- nothing but the output that waits differs
  pub record Same (one other : ServerCore S) : Type 0 where
    pub state : state_of other ≡ state_of one
    pub writing : other.writing ≡ one.writing
    pub halted : other.halted ≡ one.halted
    pub under_way : under_way_of one ≡ silence → under_way_of other ≡ silence

  -- So much of the output that waits was handed out, and nothing else changed.
  pub record Hands (handed : Output) (one other : ServerCore S) : Type 0 where
    pub same : Same one other
    pub waiting : waiting_of one ≡ then_out handed (waiting_of other)

  -- The cause for which a run ended, over the server as the events that were taken left it, and the event after those.
  pub data HasCause (before reached after : ServerCore S) : Option given.Event → Cause → Type 0 where
    -- the server was halted before the run
    was_halted : (next : Option given.Event) → before.halted ≡ true → HasCause before reached after next halted_cause
    -- memory ran out at an event that may need some, and the server is halted
    wants_memory : (event : given.Event) → IsAlive before → after.halted ≡ true → MayWant l.meaning (state_of reached) (seen event)
        → HasCause before reached after (Some event) Memory
    -- the event is refused, and the server isn't halted
    is_refused : (event : given.Event) (cause : Cause) → IsAlive before → IsAlive after → refusal l.meaning (state_of reached) (seen event) ≡ Some cause
        → HasCause before reached after (Some event) cause

  -- A run returns this result: it took so many events, the device failed in those that report a failure, and this is why it ended.
  pub record Runs {D : Type 0} (kind : DiskKind D) (from to : WithDisk S D) (events : List given.Event) (result : Result ℕ RunFault) : Type 0 where
    pub ran : Ran kind from to events (done_of result)
    pub fails : FailsAsReported kind from.disk ran.taken
    -- in an event that halted the server the device may have failed once more
    pub at_most_once : FailsAtMostOnce (kind.failures ran.disk) (kind.failures to.disk)
    -- the event after those that were taken makes a call of the disk only if it is a `Flush` and a checkpoint is open
    pub still : (event : given.Event) → slice_get events (done_of result) ≡ Some event → (seen event ≢ Flush) ⊎ (ran.reached.writing ≡ None) → to.disk ≡ ran.disk
    pub refused : IfErr result (λ fault. HasCause from.server ran.reached to.server (slice_get events fault.done) fault.cause)
    -- a `Flush` that halted the server ended the open checkpoint, if there was one
    pub halts : IfErr result (λ fault. fault.cause ≡ Memory → (event : given.Event) → slice_get events fault.done ≡ Some event → seen event ≡ Flush
        → HaltsInTurn kind ran.reached.writing ran.disk to.disk)

-- A server over a disk, in calls of one event each.
use Rattle.std.specs.Prelude.{◌≡◌, ℕ, List, [], ◌∷◌, ◌++◌, Option, None, Result, Bool, false, eqb, if◌then◌else◌, take}
use Rattle.std.specs.Option.{option_or}
use Rattle.moo_disk.specs.Disk.{DiskKind}
use Rattle.moo_dbtext_read.specs.Saved.{Saved}
use Rattle.moo_server_core.specs.Application.{Layer, Output}
use Rattle.moo_server_core.specs.Traces.{Report}
use Rattle.moo_server_core.specs.Meaning.{Entry, out_of}
use Rattle.moo_server_core.specs.Seen as seen
use Rattle.moo_server_core.specs.Server.{Hands, Runs, done_of, entries_of, waiting_of, with_disk}
use Rattle.moo_server_core.specs.Calls.{Call, Calls, Lent, One}
use Rattle.moo_server_core.specs.declared.event.Event.{Event}
use Rattle.moo_server_core.specs.declared.event.RunFault.{RunFault}
use Rattle.moo_server_core.specs.declared.server_core.ServerCore.{ServerCore}

module _ {S D : Type 0} where
  -- the events that calls took, one call after another
  abbrev pub taken_in : List (Call S D) → List Event
  taken_in [] = []
  taken_in (call ∷ calls) = take call.done call.events ++ taken_in calls

module _ {S Application D : Type 0} (l : Layer S Application Saved) (kind : DiskKind D) where
  -- The call was a run of one event over this disk, which is in no wrapper. It left another state of the disk, and returned this.
  pub record IsOneRun (disk : D) (call : Call S (Lent D D)) : Type 0 where
    pub event : Event
    pub events_are : call.events ≡ event ∷ []
    pub over : call.old ≡ One disk
    pub left : D
    pub left_is : call.disk ≡ One left
    pub result : Result ℕ RunFault
    pub done_is : call.done ≡ done_of result
    pub runs : Runs l kind (with_disk call.before disk) (with_disk call.server left) call.events result
    pub entries_are : call.entries ≡ entries_of runs.ran.taken

  -- Each call is such a run, over the disk as the call before it left it. So nobody calls the disk between two runs.
  abbrev pub AreRuns : D → List (Call S (Lent D D)) → Type 0
  AreRuns disk [] = Unit {0}
  AreRuns disk (call ∷ calls) = (run : IsOneRun disk call) × AreRuns run.left calls

-- A server and its disk came from one state to another by runs of one event each, which took these events. Between two runs, and after the
-- last one, some of what waits to go out was handed out, and nothing else happened. The laws of `moo_server_core` hold of the chain of calls.
pub record Course {S Application D : Type 0} (l : Layer S Application Saved) (kind : DiskKind D) (before : ServerCore S) (old : D) (events : List Event) (after : ServerCore S) (new : D) : Type 0 where
  pub calls : List (Call S (Lent D D))
  pub entries : List (Entry Saved)
  pub last : ServerCore S
  pub handed : Output
  pub chain : Calls l kind kind (with_disk before (One old)) calls (with_disk last (One new)) entries
  pub runs : AreRuns l kind old calls
  pub taken : events ≡ taken_in calls
  pub hands : Hands l handed last after

-- the last report of a checkpoint in these entries, if there is one
abbrev pub last_report : List (Entry Saved) → Option Report
last_report [] = None
last_report (entry ∷ entries) = option_or (last_report entries) entry.report

-- connection c hangs up in this event
abbrev pub hangs_up : ℕ → seen.Event → Bool
hangs_up c (seen.Hangup k) = eqb k c
hangs_up c event = false

-- What waits for number c in the server after these events. What an event sends comes after what waited. If c hung up in it, all is
-- dropped.
abbrev pub sent_after : ℕ → List ℕ → List (Entry Saved) → List ℕ
sent_after c waits [] = waits
sent_after c waits (entry ∷ entries) = sent_after c (if hangs_up c entry.event then [] else waits ++ entry.out.sent c) entries

-- A server was given these events, in calls of one each. Nothing is lost of what they sent, but what waited for those who hung up; and their
-- lines for the log wait after those that waited.
pub record Given {S Application D : Type 0} (l : Layer S Application Saved) (kind : DiskKind D) (before : ServerCore S) (old : D) (events : List Event) (after : ServerCore S) (new : D) : Type 0 where
  pub course : Course l kind before old events after new
  pub sent : (c : ℕ) → (waiting_of l after).sent c ≡ sent_after c ((waiting_of l before).sent c) course.entries
  pub logged : (waiting_of l after).logged ≡ (waiting_of l before).logged ++ (out_of course.entries).logged

-- What the lines of a script do to a server and its disk: runs of one event each.
use Rattle.std.specs.Prelude.{◌≡◌, ℕ, List, [], ◌∷◌, ◌++◌, map, take, Option, Some, None, Ok}
use Rattle.moo_disk.specs.FailAt.{inner_of}
use Rattle.moo_dbtext_read.specs.Saved.{Saved}
use Rattle.moo_server_core.specs.Application.{Layer, Output}
use Rattle.moo_server_core.specs.Meaning.{Entry}
use Rattle.moo_server_core.specs.Seen.{Event, seen}
use Rattle.moo_server_core.specs.Server.{Hands, Runs, entries_of, with_disk}
use Rattle.moo_server_core.specs.Calls.{Call, Calls, Lent, One}
use Rattle.moo_server_core.specs.declared.event.Event as given
use Rattle.moo_server_core.specs.declared.server_core.ServerCore.{ServerCore}
use Rattle.moo_cli_script.specs.ScriptLines.{Asks, Step, reopening, crashing}
use Rattle.moo_cli_script.specs.Script.{ScriptDisk, event_of, script_kind}

-- the step opens another server
abbrev pub IsOpening : Step → Type 0
IsOpening reopening = Unit {0}
IsOpening (crashing i) = Unit {0}
IsOpening other = ⊥

-- no line asks for another server
abbrev pub NoneOpens : List (List ℕ) → Type 0
NoneOpens [] = Unit {0}
NoneOpens (line ∷ lines) = ((s : Step) → Asks line s → IsOpening s → ⊥) × NoneOpens lines

abbrev pub with_event : Option Event → List Event → List Event
with_event None events = events
with_event (Some event) events = event ∷ events

-- these steps are asked for by the lines, one by each, and these events are what the steps give to the server
abbrev pub AreAsked : List (List ℕ) → List Event → Type 0
AreAsked [] events = events ≡ []
AreAsked (line ∷ lines) events = (s : Step) × (rest : List Event) × Asks line s × AreAsked lines rest × (events ≡ with_event (event_of s) rest)

module _ {S : Type 0} where
  -- the events that calls took, one call after another
  abbrev pub taken_in : List (Call S (Lent ScriptDisk ScriptDisk)) → List Event
  taken_in [] = []
  taken_in (call ∷ calls) = map seen (take call.done call.events) ++ taken_in calls

-- The disk in memory is the same. Perhaps another one of its calls is to fail.
abbrev pub IsSetToFail : ScriptDisk → ScriptDisk → Type 0
IsSetToFail old new = inner_of new ≡ inner_of old

module _ {S Application : Type 0} (l : Layer S Application Saved) where
  -- The call was a run of one event, which was taken, over this disk with perhaps another call set to fail. It left another state of the disk.
  pub record IsOneRun (disk : ScriptDisk) (call : Call S (Lent ScriptDisk ScriptDisk)) : Type 0 where
    pub event : given.Event
    pub events_are : call.events ≡ event ∷ []
    pub set : ScriptDisk
    pub set_is : IsSetToFail disk set
    pub over : call.old ≡ One set
    pub left : ScriptDisk
    pub left_is : call.disk ≡ One left
    pub done_is : call.done ≡ 1
    pub runs : Runs l script_kind (with_disk call.before set) (with_disk call.server left) call.events (Ok 1)
    pub entries_are : call.entries ≡ entries_of runs.ran.taken

  -- Each call is such a run, over the disk as the call before left it. So nobody calls the disk between two runs.
  abbrev pub AreRuns : ScriptDisk → List (Call S (Lent ScriptDisk ScriptDisk)) → Type 0
  AreRuns disk [] = Unit {0}
  AreRuns disk (call ∷ calls) = (run : IsOneRun disk call) × AreRuns run.left calls

-- A server and its disk came from one state to another by runs of one event each, which took these events. Between two runs, and after the last
-- one, some of what waits to go out was handed out, and perhaps another call of the disk was set to fail. Nothing else happened. The laws of
-- `moo_server_core` hold of the chain of calls.
pub record Course {S Application : Type 0} (l : Layer S Application Saved) (before : ServerCore S) (old : ScriptDisk) (events : List Event) (after : ServerCore S) (new : ScriptDisk) : Type 0 where
  pub calls : List (Call S (Lent ScriptDisk ScriptDisk))
  pub entries : List (Entry Saved)
  pub last : ServerCore S
  pub disk : ScriptDisk
  pub chain : Calls l script_kind script_kind (with_disk before (One old)) calls (with_disk last (One disk)) entries
  pub runs : AreRuns l old calls
  pub taken : taken_in calls ≡ events
  pub handed : Output
  pub hands : Hands l handed last after
  pub set : IsSetToFail disk new

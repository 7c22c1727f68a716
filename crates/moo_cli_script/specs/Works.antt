-- Words of private clauses: the work of a line, and what comes after a line.
use Rattle.std.specs.Prelude.{◌≡◌, ◌⊎◌, ℕ, Bool, true, false, List, [], ◌++◌, Option, Some, if◌then◌else◌}
use Rattle.std.specs.Io.KnownBytes.{Appends, Keeps}
use Rattle.moo_dbtext_read.specs.Saved.{Saved}
use Rattle.moo_server_core.specs.Application.{Layer}
use Rattle.moo_server_core.specs.Seen.{Event, Moment, seen}
use Rattle.moo_server_core.specs.Server.{waiting_of}
use Rattle.moo_server_core.specs.declared.event.Course.{Course}
use Rattle.moo_server_core.specs.declared.event.Course.TheVariants.{Running}
use Rattle.moo_cli_io.specs.Refused.{IsEarned}
use Rattle.moo_cli_io.specs.Watching.{HasFailed}
use Rattle.moo_cli_io.specs.declared.exit_reason.ExitReason.{ExitReason}
use Rattle.moo_cli_io.specs.declared.watch.Watch.{Watch}
use Rattle.moo_cli_script.specs.ScriptLines.{Step, failing, reopening, crashing, showing}
use Rattle.moo_cli_script.specs.declared.playing.Next.{Next}
use Rattle.moo_cli_script.specs.declared.playing.Next.TheVariants.{Goes, Stops}
use Rattle.moo_cli_script.specs.declared.script.Refused.{Refused}
use Rattle.moo_cli_script.specs.declared.script.Script.{Script}
use Rattle.moo_cli_script.specs.declared.work.Work.{Work}
use Rattle.moo_cli_script.specs.declared.work.Work.TheVariants as work
use Rattle.moo_cli_script.specs.Script.{Does, Fits, HandsOut, IsRefused, disk_view, event_of, printed_below}
use Rattle.moo_cli_script.specs.declared.telling.Stop.TheVariants as stopping
use Rattle.moo_cli_script.specs.Playing.{IsStop, IsTaken}

-- the work does what the step asks for
abbrev pub IsWork : Work → Step → Type 0
IsWork (work.Event event) s = event_of s ≡ Some (seen event)
IsWork (work.Fail k effect) s = s ≡ failing k effect
IsWork work.Reopen s = s ≡ reopening
IsWork (work.Crash i) s = s ≡ crashing i
IsWork work.Show s = s ≡ showing

abbrev pub is_show : Work → Bool
is_show work.Show = true
is_show other = false

-- the moment after an event that isn't passed over
abbrev pub told_at : Event → ℕ → ℕ
told_at (Moment t) now = t
told_at event now = now

-- a server's moment after an event that it takes
abbrev pub moment_at : Course → Event → ℕ → ℕ
moment_at Running event now = told_at event now
moment_at course event now = now

-- one of the two has seen why the program gives up
abbrev pub IsEarnedIn : Watch → Watch → ExitReason → Type 0
IsEarnedIn database script refusal = IsEarned database refusal ⊎ IsEarned script refusal

-- nothing was printed, or some text was, unless an input or output has failed
abbrev pub IsSilent : Watch → Option (List ℕ) → Option (List ℕ) → Type 0
IsSilent watch old new = HasFailed watch ⊎ Keeps old new

abbrev pub HasGrown : Watch → Option (List ℕ) → Option (List ℕ) → Type 0
HasGrown watch old new = HasFailed watch ⊎ ((text : List ℕ) × Appends old new text)

-- what is shown and what was sent
abbrev pub printed_of : {S Application : Type 0} → Layer S Application Saved → Bool → Script S → List ℕ
printed_of l show script = (if show then (disk_view script.disk).main_text else []) ++ printed_below script.top (waiting_of l script.server).sent

module _ {S Application : Type 0} (l : Layer S Application Saved) where
  -- the work was done, or is refused
  abbrev pub IsDone : Script S → Work → Option (List ℕ) → Option (List ℕ) → Next S → Type 0
  IsDone script w old new (Goes next) =
      Fits l next × (done : Script S) × ((s : Step) → IsWork w s → Does l s script done) × HandsOut l done next
      × Appends old new (printed_of l (is_show w) done)
  IsDone script w old new (Stops stop) =
      (refused : Refused) × (stop ≡ stopping.Refused refused) × ((s : Step) → IsWork w s → IsRefused l s script refused) × (new ≡ old)

  -- the line was taken, or the script ends at it
  abbrev pub IsNext : Script S → List ℕ → Option (List ℕ) → Option (List ℕ) → Next S → Type 0
  IsNext script line old new (Goes next) = Fits l next × (text : List ℕ) × IsTaken l line script next text × Appends old new text
  IsNext script line old new (Stops stop) = IsStop l script line stop × (new ≡ old)

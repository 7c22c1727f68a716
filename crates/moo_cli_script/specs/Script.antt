-- What a step of a script does to a server over a disk in memory, and what is printed of it.
use Rattle.std.specs.Prelude.{◌≡◌, ◌≢◌, ℕ, zero, suc, ◌+◌, ◌<◌, ◌≤◌, max, Bool, List, [], ◌∷◌, ◌++◌, codes, length, slice_get, Option, Some, None, Result, Ok, Err, MatchOption}
use Rattle.moo_disk.specs.Disk.{DiskKind, DiskView, OnlyReads}
use Rattle.moo_disk.specs.FailAt.{failing_kind, has_effect, inner_of, left_of}
use Rattle.moo_disk.specs.Memory.{images, memory_kind}
use Rattle.moo_disk.specs.declared.fail_at.FailAt.{FailAt}
use Rattle.moo_disk.specs.declared.memory.MemoryDisk.{MemoryDisk}
use Rattle.moo_dbtext_record.specs.declared.fault.DbFault.{DbFault}
use Rattle.moo_dbtext_record.specs.declared.fault.DbFaultKind.TheVariants as kind
use Rattle.moo_dbtext_read.specs.Saved.{Saved, SpellsSavedWithin}
use Rattle.moo_dbtext_read.specs.Refusals.{Refuses as RefusesText}
use Rattle.moo_checkpoint.specs.Recovering.{CountsFault}
use Rattle.moo_checkpoint.specs.declared.open_fault.OpenFault.{OpenFault}
use Rattle.moo_checkpoint.specs.declared.open_fault.OpenFault.TheVariants as opening_fault
use Rattle.moo_server_core.specs.Application.{Layer, Output}
use Rattle.moo_server_core.specs.Seen.{Event, Open, Bytes, Hangup, Moment, Flush, seen}
use Rattle.moo_server_core.specs.Server.{Follows, Hands, IsAlive, Runs, Same, waiting_of, with_disk}
use Rattle.moo_server_core.specs.Calls.{Opened}
use Rattle.moo_server_core.specs.declared.event.Event as given
use Rattle.moo_server_core.specs.declared.event.Cause.{Cause}
use Rattle.moo_server_core.specs.declared.event.RunFault.{RunFault}
use Rattle.moo_cli_script.specs.ScriptLines.{Step, opening, typing, sending, hanging_up, moment, flushing, failing, reopening, crashing, showing}
use Rattle.moo_cli_script.specs.Printed.{sent_lines}
use Rattle.moo_cli_script.specs.declared.script.Refused.{Refused}
use Rattle.moo_cli_script.specs.declared.script.Refused.TheVariants as refusing
use Rattle.moo_cli_script.specs.declared.script.Script.{Script}

-- ---- the disk: one in memory, a call of which may be made to fail

abbrev pub ScriptDisk : Type 0
ScriptDisk = FailAt MemoryDisk

abbrev pub script_kind : DiskKind ScriptDisk
script_kind = failing_kind memory_kind

abbrev pub disk_view : ScriptDisk → DiskView
disk_view disk = script_kind.view disk

-- from now on its k-th call fails, with or without its effect
pub record FailsAt (k : ℕ) (effect : Bool) (old new : ScriptDisk) : Type 0 where
  pub within : inner_of new ≡ inner_of old
  pub call : left_of new ≡ k
  pub effect_is : has_effect new ≡ effect

-- a crash has left its i-th text, and that alone, without a spare; no call is to fail
pub record IsCrashed (i : ℕ) (old new : ScriptDisk) : Type 0 where
  pub image : slice_get (images (inner_of old)) i ≡ Some (disk_view new).main_text
  pub alone : images (inner_of new) ≡ (disk_view new).main_text ∷ []
  pub spare : (disk_view new).spare ≡ None
  pub call : left_of new ≡ 0

-- Why there is no server over a disk: if the text is refused, this is the fault that is reported, and it spells no saved world within the
-- limits. The device is reported if it failed in a read, and in no other case. No other call was made.
pub record NotOpened (disk : ScriptDisk) (fault : OpenFault) : Type 0 where
  pub text : (f : DbFault) → fault ≡ opening_fault.Db f → RefusesText (disk_view disk).main_text f × (f.kind ≢ kind.Memory)
  pub none : (f : DbFault) → fault ≡ opening_fault.Db f → (saved : Saved) → ¬ SpellsSavedWithin (disk_view disk).main_text saved
  pub left : ScriptDisk
  pub reads : OnlyReads script_kind 65536 disk left
  pub device : CountsFault (Unit {0}) (script_kind.failures disk) (script_kind.failures left) fault

-- ---- events

-- the event that a step is, if it is one
abbrev pub event_of : Step → Option Event
event_of (opening c) = Some (Open c)
event_of (typing c text) = Some (Bytes c (text ++ codes "\n"))
event_of (sending c bytes) = Some (Bytes c bytes)
event_of (hanging_up c) = Some (Hangup c)
event_of (moment t) = Some (Moment t)
event_of flushing = Some Flush
event_of (failing k effect) = None
event_of reopening = None
event_of (crashing i) = None
event_of showing = None

-- a number above those of all connections that were opened
abbrev pub top_after : Event → ℕ → ℕ
top_after (Open c) top = max top (c + 1)
top_after event top = top

module _ {S Application : Type 0} (l : Layer S Application Saved) where
  -- the server isn't halted and goes on with its disk, and its moment is known
  pub record Fits (script : Script S) : Type 0 where
    pub follows : Follows l script_kind (with_disk script.server script.disk)
    pub alive : IsAlive script.server
    pub moment_is : script.moment ≡ script.server.moment
    pub top_fits : script.top ≤ 65536

  -- A run of the server over its disk, of this event alone, answered this. The disk is met in a `Flush` alone.
  pub record IsRun (event : Event) (old new : Script S) (result : Result ℕ RunFault) : Type 0 where
    pub given_event : given.Event
    pub event_is : seen given_event ≡ event
    pub runs : Runs l script_kind (with_disk old.server old.disk) (with_disk new.server new.disk) (given_event ∷ []) result
    pub still : event ≢ Flush → new.disk ≡ old.disk

  -- an event was taken
  pub record Takes (event : Event) (old new : Script S) : Type 0 where
    pub run : IsRun event old new (Ok 1)
    pub alive : IsAlive new.server
    pub top : new.top ≡ top_after event old.top

  -- an event was refused, for this cause
  pub record Refuses (event : Event) (old : Script S) (cause : Cause) : Type 0 where
    pub new : Script S
    pub fault : RunFault
    pub run : IsRun event old new (Err fault)
    pub cause_is : cause ≡ fault.cause

  -- a server was opened over a disk, at a moment, from a saved world that main spells within the limits of database texts
  pub record OpensServer (disk : ScriptDisk) (at : ℕ) (new : Script S) : Type 0 where
    pub saved : Saved
    pub spelled : SpellsSavedWithin (disk_view disk).main_text saved
    pub opened : Opened l script_kind new.server disk new.disk saved at
    pub top : new.top ≡ 0

  -- another one was opened over what a crash left, at the same moment
  pub record Crashes (i : ℕ) (old new : Script S) : Type 0 where
    pub left : ScriptDisk
    pub crashed : IsCrashed i old.disk left
    pub opens : OpensServer left old.server.moment new

  -- a call of the disk is to fail, and nothing else is another
  pub record IsToFail (k : ℕ) (effect : Bool) (old new : Script S) : Type 0 where
    pub fails : FailsAt k effect old.disk new.disk
    pub server : new.server ≡ old.server
    pub top : new.top ≡ old.top

  -- what a step does
  abbrev pub Does : Step → Script S → Script S → Type 0
  Does (failing k effect) old new = IsToFail k effect old new
  Does reopening old new = OpensServer old.disk old.server.moment new
  Does (crashing i) old new = Crashes i old new
  Does showing old new = new ≡ old
  Does event old new = MatchOption (event_of event) ⊥ (λ e. Takes e old new)

  -- ---- refusals

  -- why there is no server over what a crash leaves
  abbrev pub NotCrashed : ℕ → Script S → Refused → Type 0
  NotCrashed i old (refusing.Event cause) = ⊥
  NotCrashed i old (refusing.Opening fault) = (left : ScriptDisk) × IsCrashed i old.disk left × NotOpened left fault
  NotCrashed i old refusing.NoSuchImage = length (images (inner_of old.disk)) ≤ i

  abbrev pub NotReopened : Script S → Refused → Type 0
  NotReopened old (refusing.Opening fault) = NotOpened old.disk fault
  NotReopened old refused = ⊥

  abbrev pub NotTaken : Event → Script S → Refused → Type 0
  NotTaken event old (refusing.Event cause) = Refuses event old cause
  NotTaken event old refused = ⊥

  -- why a step isn't done
  abbrev pub IsRefused : Step → Script S → Refused → Type 0
  IsRefused (failing k effect) old refused = ⊥
  IsRefused reopening old refused = NotReopened old refused
  IsRefused (crashing i) old refused = NotCrashed i old refused
  IsRefused showing old refused = ⊥
  IsRefused event old refused = MatchOption (event_of event) ⊥ (λ e. NotTaken e old refused)

  -- ---- what is printed

  -- What waited for connections that were opened is handed out, and the log's lines are; nothing else is another.
  pub record HandsOut (old new : Script S) : Type 0 where
    pub same : Same l old.server new.server
    pub hands : (handed : Output) × Hands l handed old.server new.server
    pub nothing : (c : ℕ) → c < old.top → (waiting_of l new.server).sent c ≡ []
    pub others : (c : ℕ) → old.top ≤ c → (waiting_of l new.server).sent c ≡ (waiting_of l old.server).sent c
    pub logged : (waiting_of l new.server).logged ≡ []
    pub disk : new.disk ≡ old.disk
    pub top : new.top ≡ old.top

  -- the main text, if it is to be shown
  abbrev pub shown_of : Step → Script S → List ℕ
  shown_of showing script = (disk_view script.disk).main_text
  shown_of step script = []

-- what was sent on each connection below a number, in rising order
abbrev pub printed_below : ℕ → (ℕ → List ℕ) → List ℕ
printed_below zero sent = []
printed_below (suc c) sent = printed_below c sent ++ sent_lines c (sent c)

-- A server over a disk from its start to its end: how it is begun, the rounds that it makes, and why it ends.
use Rattle.std.specs.Prelude.{◌≡◌, ◌≢◌, ◌⊎◌, ℕ, zero, suc, ◌<◌, ◌≤◌, List, [], ◌∷◌, ◌++◌, None, Err, false}
use Rattle.slab.specs.Slab.{Slab, get}
use Rattle.moo_disk.specs.Disk.{DiskKind, KeepsMain, KeepsSpare, OnlyReads}
use Rattle.moo_dbtext_record.specs.declared.fault.DbFault.{DbFault}
use Rattle.moo_dbtext_record.specs.declared.fault.DbFaultKind.TheVariants as fault_kind
use Rattle.moo_dbtext_read.specs.Saved.{Saved, SpellsSavedWithin}
use Rattle.moo_dbtext_read.specs.Refusals.{Refuses as RefusesText}
use Rattle.moo_checkpoint.specs.Recovering.{CountsFault}
use Rattle.moo_checkpoint.specs.declared.open_fault.OpenFault.{OpenFault}
use Rattle.moo_checkpoint.specs.declared.open_fault.OpenFault.TheVariants as opening
use Rattle.moo_server_core.specs.Application.{Layer, Output}
use Rattle.moo_cli_sockets.specs.declared.socket.Socket.{Socket}
use Rattle.moo_cli_sockets.specs.declared.sockets.Sockets.{Sockets}
use Rattle.moo_cli_sockets.specs.Coming.{held}
use Rattle.moo_cli_sockets.specs.Reading.{IsAlike, IsStill}
use Rattle.moo_server_core.specs.Calls.{Opened}
use Rattle.moo_server_core.specs.Server.{Hands, Runs, with_disk}
use Rattle.moo_server_core.specs.declared.event.Cause.{Cause}
use Rattle.moo_server_core.specs.declared.event.Event.{Event}
use Rattle.moo_server_core.specs.declared.event.RunFault.{RunFault}
use Rattle.moo_server_core.specs.declared.server_core.ServerCore as inner
use Rattle.moo_cli_serve.specs.Course.{Course, Given}
use Rattle.moo_cli_serve.specs.Console.{new_console}
use Rattle.moo_cli_serve.specs.Rounds.{Begins, IsClosed, Logs, Rounds, given_in}
use Rattle.moo_cli_serve.specs.Silence.{Listens, is_silent}
use Rattle.moo_cli_serve.specs.Writing.{Writes}
use Rattle.moo_cli_serve.specs.declared.console.Console.{Console}
use Rattle.moo_cli_serve.specs.declared.fault.ServeFault.{ServeFault}
use Rattle.moo_cli_serve.specs.declared.fault.ServeFault.TheVariants as the
use Rattle.moo_cli_serve.specs.declared.limits.Limits.{Limits}
use Rattle.moo_cli_serve.specs.declared.serving.Round.{Round}
use Rattle.moo_cli_serve.specs.declared.serving.Round.TheVariants as round
use Rattle.moo_cli_serve.specs.declared.serving.Serving.{Serving}
use Rattle.moo_cli_serve.specs.declared.silence.Silence.{Silence}

-- a fault of the sockets, the output or the memory: neither of the disk nor of an event
abbrev pub IsOutside : ServeFault → Type 0
IsOutside (the.Open fault) = ⊥
IsOutside (the.Refused cause) = ⊥
IsOutside fault = Unit {0}

-- it waited: for its sockets, which hold and keep what they had
pub record Waits {S D : Type 0} (old new : Serving S D) : Type 0 where
  pub server_is : new.server ≡ old.server
  pub disk_is : new.disk ≡ old.disk
  pub moment_is : new.moment ≡ old.moment
  pub console_is : new.console ≡ old.console
  pub most_is : new.clients.most_waiting ≡ old.clients.most_waiting
  pub timeouts_are : new.timeouts ≡ old.timeouts
  pub sockets : (c : ℕ) → held new.clients.sockets.sockets c ≡ held old.clients.sockets.sockets c
  pub still : (c : ℕ) → IsStill (get old.clients.sockets.sockets c) (get new.clients.sockets.sockets c)
  pub alike : IsAlike old.clients.sockets new.clients.sockets

module _ {S Application D : Type 0} (l : Layer S Application Saved) (kind : DiskKind D) where
  -- A server was begun from what a disk holds, at a moment: from a saved world that main spells within the limits of database texts. Nothing was written.
  pub record IsBegunFrom (disk : D) (moment : ℕ) (server : inner.ServerCore S) (left : D) : Type 0 where
    pub saved : Saved
    pub spelled : kind.honest disk → SpellsSavedWithin (kind.view disk).main_text saved
    pub opened : Opened l kind server disk left saved moment
    pub spare : kind.honest disk → KeepsSpare (kind.view disk) (kind.view left)

  -- A server was begun over a disk, at this moment of the clock. No connection has a socket.
  pub record Begun (disk : D) (limits : Limits) (start : Serving S D) : Type 0 where
    pub from : IsBegunFrom disk start.moment start.server start.disk
    pub none : (c : ℕ) → held start.clients.sockets.sockets c ≡ None
    pub most_is : start.clients.most_waiting ≡ limits.most_waiting
    pub idle_is : start.timeouts.silence.limit ≡ limits.idle_seconds
    pub logins_are : start.timeouts.strangers.limits ≡ limits.login
    pub console_is : start.console ≡ new_console start.console.is_on

  -- A round was made. Then what waited for the console and the log was handed out, and nothing else happened.
  pub record Turns (old new : Serving S D) : Type 0 where
    pub turned : Serving S D
    pub rounds : Rounds l kind old turned
    pub logs : Logs l turned.console new.console turned.server new.server
    pub same : new ≡ record turned { server = new.server; console = new.console }

  -- It waits after an idle round, in which nothing was typed, and after no other.
  abbrev pub Pauses : Round → Serving S D → Serving S D → Type 0
  Pauses round.Idle turned new = (turned.console.is_busy ≡ false) × Waits turned new
  Pauses found turned new = new ≡ turned

  -- a round was made, and it waited after it if it was idle
  abbrev pub Steps : Serving S D → Serving S D → Type 0
  Steps old new = (turned : Serving S D) × Turns old turned × (found : Round) × Pauses found turned new

  -- so many rounds were made, one after another
  abbrev pub Makes : ℕ → Serving S D → Serving S D → Type 0
  Makes zero old new = new ≡ old
  Makes (suc n) old new = (mid : Serving S D) × Makes n old mid × Steps mid new

  -- the events that these rounds gave to the server, in order
  abbrev pub events_in : (rounds : ℕ) (old new : Serving S D) → Makes rounds old new → List Event
  events_in zero old new makes = []
  events_in (suc n) old new (mid, makes, steps) = events_in n old mid makes ++ given_in l kind steps.1.rounds

  -- It went through so many rounds, or through fewer and was closed then.
  pub record IsServed (rounds : ℕ) (old new : Serving S D) : Type 0 where
    pub made : ℕ
    pub makes : Makes made old new
    pub few : made ≤ rounds
    pub ends : IsClosed new.server ⊎ (made ≡ rounds)

  -- A server was begun over a disk and served to its end. The events of its rounds were given to it in calls of one each.
  pub record Serves (disk : D) (limits : Limits) (rounds : ℕ) : Type 0 where
    pub start : Serving S D
    pub end : Serving S D
    pub begun : Begun disk limits start
    pub served : IsServed rounds start end
    pub course : Course l kind start.server start.disk (events_in served.made start end served.makes) end.server end.disk

module _ {D : Type 0} (kind : DiskKind D) where
  -- Why no server was begun over a disk, which was left so. If its text is refused, the fault says why, and the text spells no saved
  -- world within the limits. If the fault is the device's, the device has failed. The disk was read, and no other call was made.
  pub record NotBegun (disk left : D) (fault : OpenFault) : Type 0 where
    pub text : kind.honest disk → (f : DbFault) → fault ≡ opening.Db f → RefusesText (kind.view disk).main_text f × (f.kind ≢ fault_kind.Memory)
    pub none : kind.honest disk → (f : DbFault) → fault ≡ opening.Db f → (saved : Saved) → ¬ SpellsSavedWithin (kind.view disk).main_text saved
    pub device : CountsFault (kind.honest disk) (kind.failures disk) (kind.failures left) fault
    pub main : kind.honest disk → KeepsMain (kind.view disk) (kind.view left)
    pub spare : kind.honest disk → KeepsSpare (kind.view disk) (kind.view left)
    pub reads : OnlyReads kind 65536 disk left

  abbrev pub LeavesUnbegun : D → D → ServeFault → Type 0
  LeavesUnbegun disk left (the.Open fault) = NotBegun disk left fault
  LeavesUnbegun disk left fault = ⊥

module _ {S Application D : Type 0} (l : Layer S Application Saved) (kind : DiskKind D) where
  -- There are no rounds: no server was begun, or there are no sockets for the one that was.
  abbrev pub NotStarted : D → ServeFault → Type 0
  NotStarted disk (the.Open fault) = (left : D) × NotBegun kind disk left fault
  NotStarted disk (the.Sockets fault) = (moment : ℕ) × (server : inner.ServerCore S) × (left : D) × IsBegunFrom l kind disk moment server left
  NotStarted disk fault = ⊥

  -- A server was given events of a list, in calls of one each, up to one that it refused in such a call for this cause; then some of what
  -- waits was handed out.
  pub record IsRefused (cause : Cause) (events : List Event) (before : inner.ServerCore S) (old : D) (after : inner.ServerCore S) (new : D) : Type 0 where
    pub taken : List Event
    pub event : Event
    pub rest : List Event
    pub all : events ≡ taken ++ event ∷ rest
    pub mid : inner.ServerCore S
    pub between : D
    pub gives : Given l kind before old taken mid between
    pub fault : RunFault
    pub left : inner.ServerCore S
    pub runs : Runs l kind (with_disk mid between) (with_disk left new) (event ∷ []) (Err fault)
    pub honest_still : kind.honest between → kind.honest new
    pub cause_is : fault.cause ≡ cause
    pub handed : (handed : Output) × Hands l handed left after

  -- A round came to its writes, and a hang-up that came of them was refused for this cause.
  pub record RefusesParted (cause : Cause) (most : ℕ) (first : List Event) (server : inner.ServerCore S) (old : D) (read : Slab Socket) (silence : Silence) (after : inner.ServerCore S) (new : D) : Type 0 where
    pub given : inner.ServerCore S
    pub between : D
    pub gives : Given l kind server old first given between
    pub parted : List Event
    pub written : inner.ServerCore S
    pub left : Slab Socket
    pub second : ℕ
    pub listened : Silence
    pub listens : Listens second first silence listened
    pub writes : Writes l most (is_silent listened second) given written read left parted
    pub handed : (handed : Output) × Hands l handed given written
    pub refused : IsRefused cause parted written between after new

  -- A round was begun, and broke off at an event that the server refused for this cause: one of those that are given first, or a hang-up
  -- that came of the writes. The server took `events` before.
  pub record RefusesRound (cause : Cause) (old : Serving S D) (moment : ℕ) (events : List Event) (after : inner.ServerCore S) (new : D) : Type 0 where
    pub first : List Event
    pub read : Sockets
    pub typing : Console
    pub begins : Begins old.clients.sockets read old.console typing old.moment moment first
    pub refused : ((refused : IsRefused cause first old.server old.disk after new) × (events ≡ refused.taken))
        ⊎ ((parted : RefusesParted cause old.clients.most_waiting first old.server old.disk read.sockets old.timeouts.silence after new) × (events ≡ first ++ parted.refused.taken))

  -- A round was begun, and broke off before the server was given anything, or after it was given all that is given first. Then some of what
  -- waits was handed out.
  pub record CutsRound (old : Serving S D) (moment : ℕ) (events : List Event) (after : inner.ServerCore S) (new : D) : Type 0 where
    pub events_are : (events ≡ []) ⊎ ((read : Sockets) × (typing : Console) × Begins old.clients.sockets read old.console typing old.moment moment events)
    pub given : inner.ServerCore S
    pub gives : Given l kind old.server old.disk events given new
    pub handed : (handed : Output) × Hands l handed given after

  -- why a round broke off, after the server took these events
  abbrev pub EndsFor : ServeFault → Serving S D → List Event → Serving S D → Type 0
  EndsFor (the.Refused cause) old events new = RefusesRound cause old new.moment events new.server new.disk
  EndsFor (the.Sockets fault) old events new = CutsRound old new.moment events new.server new.disk
  EndsFor the.Memory old events new = CutsRound old new.moment events new.server new.disk
  EndsFor fault old events new = ⊥

  -- a round broke off, or it was made and the wait after it failed
  abbrev pub StepFails : ServeFault → Serving S D → List Event → Serving S D → Type 0
  StepFails fault old events new =
      EndsFor fault old events new ⊎ (IsOutside fault × ((steps : Steps l kind old new) × (events ≡ given_in l kind steps.1.rounds)))

  -- So many rounds were made, and one more was begun and broke off for this fault, or the wait after it failed. The server took `events`.
  pub record BreaksOff (rounds : ℕ) (fault : ServeFault) (old : Serving S D) (events : List Event) (new : Serving S D) : Type 0 where
    pub made : ℕ
    pub mid : Serving S D
    pub makes : Makes l kind made old mid
    pub fewer : made < rounds
    pub last : List Event
    pub ends : StepFails fault mid last new
    pub all : events ≡ events_in l kind made old mid makes ++ last

  -- A server was begun over a disk, and ended before for this fault: the address was not known or not printed, or a round broke off. The
  -- events that it took were given to it in calls of one each.
  pub record Stops (disk : D) (limits : Limits) (rounds : ℕ) (fault : ServeFault) : Type 0 where
    pub start : Serving S D
    pub end : Serving S D
    pub begun : Begun l kind disk limits start
    pub events : List Event
    pub breaks : (IsOutside fault × (end ≡ start) × (events ≡ [])) ⊎ BreaksOff rounds fault start events end
    pub course : Course l kind start.server start.disk events end.server end.disk

  abbrev pub Fails : D → Limits → ℕ → ServeFault → Type 0
  Fails disk limits rounds fault = NotStarted disk fault ⊎ Stops disk limits rounds fault

-- Lives of a server over one disk. Each ends by a crash, or by an end of the server alone.
use Rattle.std.specs.Prelude.{◌≡◌, ◌≢◌, ◌⊎◌, ◌+◌, ◌<◌, ◌≤◌, ℕ, List, [], ◌∷◌, length, take, slice_get, All, Some, Result, Ok, Err}
use Rattle.moo_disk.specs.Disk.{DiskKind, IsLeftBy, KeepsMain, KeepsSpare, OnlyReads, ReadsBelow}
use Rattle.moo_checkpoint.specs.Recovering.{CountsFault}
use Rattle.moo_checkpoint.specs.declared.open_fault.OpenFault.{OpenFault}
use Rattle.moo_checkpoint.specs.declared.open_fault.OpenFault.TheVariants.{Db, Device, Memory as no_memory}
use Rattle.moo_dbtext_record.specs.declared.fault.DbFault.{DbFault}
use Rattle.moo_dbtext_record.specs.declared.fault.DbFaultKind.TheVariants as fault_kind
use Rattle.moo_dbtext_read.specs.Refusals.{Refuses as RefusesText}
use Rattle.moo_dbtext_read.specs.Saved.{Saved}
use Rattle.moo_server_core.specs.Application.{Layer}
use Rattle.moo_server_core.specs.Crash.{IsOneOf, since_done}
use Rattle.moo_server_core.specs.Seen.{Flush, seen}
use Rattle.moo_server_core.specs.Meaning.{Entry}
use Rattle.moo_server_core.specs.declared.event.Event as given
use Rattle.moo_server_core.specs.declared.event.RunFault.{RunFault}
use Rattle.moo_server_core.specs.declared.server_core.ServerCore.{ServerCore}
use Rattle.moo_server_core.specs.Server.{Follows, IsAlive, Runs, done_of, entries_of, traces_under, with_disk}
use Rattle.moo_server_core.specs.Calls.{Opened}
use Rattle.moo_server_core.specs.declared.life.Life.{Life}
use Rattle.moo_server_core.specs.declared.life.LifeBegin.{LifeBegin}
use Rattle.moo_server_core.specs.declared.life.LifeStop.{LifeStop}
use Rattle.moo_server_core.specs.declared.life.LifeStop.TheVariants.{Crash, ServerOnly}
use Rattle.moo_server_core.specs.declared.life.LivesCause.{LivesCause}
use Rattle.moo_server_core.specs.declared.life.LivesCause.TheVariants.{NoSuchImage, Memory}
use Rattle.moo_server_core.specs.declared.life.LivesCause.TheVariants.{Open as not_open}
use Rattle.moo_server_core.specs.declared.life.LivesFault.{LivesFault}

-- A life: main as it read at the start, the world that it began from, how it ended, and what the server and the disk were.
pub record LifeRun (S D : Type 0) : Type 0 where
  pub main : List ℕ
  pub saved : Saved
  pub moment : ℕ
  pub events : List given.Event
  pub stop : LifeStop
  pub result : Result ℕ RunFault
  pub entries : List (Entry Saved)
  pub start : ServerCore S
  pub end : ServerCore S
  pub old : D
  pub opened : D
  pub new : D

-- which of these texts may be under main after the end of a life
abbrev pub IsLeft : LifeStop → List (List ℕ) → List (List ℕ) → Type 0
IsLeft ServerOnly texts left = left ≡ texts
IsLeft (Crash i) texts left = (c : List ℕ) × IsOneOf texts c × (left ≡ c ∷ [])

-- what a crash left of an honest disk: only the text of that number
pub record IsCrashed {D : Type 0} (kind : DiskKind D) (images : D → List (List ℕ)) (i : ℕ) (end new : D) : Type 0 where
  pub left : IsLeftBy (kind.view end) (kind.view new)
  pub image : slice_get (images end) i ≡ Some (kind.view new).main_text
  pub honest_still : kind.honest new

-- the disk after the end of a life
abbrev pub IsStopped : {D : Type 0} → DiskKind D → (D → List (List ℕ)) → LifeStop → D → D → Type 0
IsStopped kind images (Crash i) end new = kind.honest end → IsCrashed kind images i end new
IsStopped kind images ServerOnly end new = new ≡ end

-- the crash leaves no text of that number
abbrev pub HasNoImage : {D : Type 0} → (D → List (List ℕ)) → LifeStop → D → Type 0
HasNoImage images (Crash i) end = length (images end) ≤ i
HasNoImage images ServerOnly end = ⊥

-- the device failed, or memory ran out
abbrev pub IsSound : OpenFault → Type 0
IsSound fault = (fault ≡ Device) ⊎ (fault ≡ no_memory)

-- a run without a fault took all its events
abbrev pub RanAll : {S : Type 0} → Result ℕ RunFault → List given.Event → ServerCore S → Type 0
RanAll (Ok n) events end = (n ≡ length events) × IsAlive end
RanAll (Err fault) events end = Unit {0}

module _ {S Application : Type 0} (l : Layer S Application Saved) where
  -- a server was opened, and this is the text of the world that it began from
  pub record IsOpen {D : Type 0} (kind : DiskKind D) (old new : D) (moment : ℕ) (server : ServerCore S) (text : List ℕ) : Type 0 where
    pub saved : Saved
    pub opened : Opened l kind server old new saved moment
    pub text_is : text ≡ l.meaning.text_of saved
    pub follows : Follows l kind (with_disk server new)

  -- what is returned of a life
  pub record IsTold {D : Type 0} (life : Life) (run : LifeRun S D) (begin : LifeBegin) : Type 0 where
    pub moment : run.moment ≡ life.moment
    pub events : run.events ≡ life.events.items
    pub stop : run.stop ≡ life.stop
    pub text : begin.text.items ≡ l.meaning.text_of run.saved
    pub done : begin.done ≡ done_of run.result

  abbrev pub AreTold : {D : Type 0} → List Life → List (LifeRun S D) → List LifeBegin → Type 0
  AreTold [] [] [] = Unit {0}
  AreTold (life ∷ lives) (run ∷ runs) (begin ∷ begins) = IsTold life run begin × AreTold lives runs begins
  AreTold lives runs begins = ⊥

  module _ {D : Type 0} (kind : DiskKind D) where
    -- It began by an `open` in which the device didn't fail and that left the spare as it was, and then ran its events.
    pub record IsLife (life : LifeRun S D) : Type 0 where
      pub main : life.main ≡ (kind.view life.old).main_text
      pub opened : Opened l kind life.start life.old life.opened life.saved life.moment
      pub open_counts : kind.failures life.opened ≡ kind.failures life.old
      pub open_spare : kind.honest life.old → KeepsSpare (kind.view life.old) (kind.view life.opened)
      pub runs : Runs l kind (with_disk life.start life.opened) (with_disk life.end life.new) life.events life.result
      pub entries : entries_of runs.ran.taken ≡ life.entries
      pub all : RanAll life.result life.events life.end
      -- without a `Flush` the disk is as the start left it
      pub still : All (λ event. seen event ≢ Flush) life.events → life.new ≡ life.opened
      pub honest_still : kind.honest life.old → kind.honest life.new

    -- what a life was, and what is returned of it
    pub record HasLived (life : Life) (old new : D) (begin : LifeBegin) : Type 0 where
      pub run : LifeRun S D
      pub old_is : run.old ≡ old
      pub new_is : run.new ≡ new
      pub is : IsLife run
      pub told : IsTold life run begin

    -- A life that didn't begin, since no server was opened. The disk was read, no other call was made, and nothing was written. The device is
    -- reported exactly if it failed, and a fault of the text only if the text has it. If main spells a saved world within the limits, the
    -- device failed or memory ran out.
    pub record NotBegun (old new : D) (fault : OpenFault) : Type 0 where
      pub refused : kind.honest old → (f : DbFault) → fault ≡ Db f → RefusesText (kind.view old).main_text f × (f.kind ≢ fault_kind.Memory)
      pub sound : kind.honest old → (s : Saved) → l.meaning.Spells (kind.view old).main_text s → IsSound fault
      pub device : CountsFault (kind.honest old) (kind.failures old) (kind.failures new) fault
      pub main : kind.honest old → KeepsMain (kind.view old) (kind.view new)
      pub spare : kind.honest old → KeepsSpare (kind.view old) (kind.view new)
      pub reads : OnlyReads kind 65536 old new
      pub few : kind.honest old → ReadsBelow kind 65536 (length (kind.view old).main_text + 1) old new

    abbrev pub IsMet : D → D → LivesCause → Type 0
    IsMet old new (not_open fault) = NotBegun old new fault
    IsMet old new cause = ⊥

    module _ (images : D → List (List ℕ)) where
      -- A life that didn't begin, or whose crash leaves no such text, or that ended before memory ran out for what is returned of it; and the
      -- disk that it left.
      abbrev pub EndsBefore : Life → D → D → LivesCause → Type 0
      EndsBefore life old left (not_open fault) = NotBegun old left fault
      EndsBefore life old left NoSuchImage = (begin : LifeBegin) × HasLived life old left begin × HasNoImage images life.stop left
      EndsBefore life old left Memory = (end : D) × (begin : LifeBegin) × HasLived life old end begin × IsStopped kind images life.stop end left

      -- One life, over the disk that the one before it left. One of `texts` is under main before it, and one of `after` afterwards.
      pub record LivesOnce (disk : D) (texts : List (List ℕ)) (life : LifeRun S D) (after : List (List ℕ)) (next : D) : Type 0 where
        pub begins_over : life.old ≡ disk
        pub honest_then : kind.honest life.old
        pub reads : IsOneOf texts life.main
        -- it begins from the world that main spells within the limits
        pub begins_from : l.meaning.Spells life.main life.saved
        pub lived : IsLife life
        -- The texts of the mark of its last report done and of later ones may be left, and those before too if none was done. A crash
        -- leaves one of them, and that alone.
        pub leaves : IsLeft life.stop (since_done texts (traces_under l.meaning life.entries)) after
        pub ends : IsStopped kind images life.stop life.new next

      -- Lives, the first of which begins over this disk, with one of these texts under main; the texts and the disk that they leave.
      abbrev pub Lives : D → List (List ℕ) → List (LifeRun S D) → List (List ℕ) → D → Type 0
      Lives disk texts [] left last = (left ≡ texts) × (last ≡ disk)
      Lives disk texts (life ∷ lives) left last =
          (after : List (List ℕ)) × (next : D) × LivesOnce disk texts life after next × Lives next after lives left last

      -- lives up to some place, and the disk after them
      pub record SoFar (lives : List Life) (begins : List LifeBegin) (first disk : D) : Type 0 where
        pub runs : List (LifeRun S D)
        pub left : List (List ℕ)
        pub lived : Lives first ((kind.view first).main_text ∷ []) runs left disk
        pub told : AreTold lives runs begins
        -- what a crash leaves of the disk is one of these texts, each of which spells a saved world
        pub honest_still : kind.honest disk
        pub within : (c : List ℕ) → (kind.view disk).may_leave c → IsOneOf left c
        pub spelled : (c : List ℕ) → IsOneOf left c → (s : Saved) × l.meaning.Spells c s

      -- the lives before the one that the fault names, what that one met, and the disk that it left
      pub record EndsAt (lives : List Life) (first last : D) (fault : LivesFault) : Type 0 where
        pub place : fault.life < length lives
        pub begins : List LifeBegin
        pub disk : D
        pub so_far : SoFar (take fault.life lives) begins first disk
        pub life : Life
        pub life_is : slice_get lives fault.life ≡ Some life
        pub meets : EndsBefore life disk last fault.cause

-- Calls of a server, one after another, and a stop at any moment.
use Rattle.std.specs.Prelude.{◌≡◌, ◌≢◌, ◌⊎◌, ℕ, ◌+◌, ◌≤◌, List, [], ◌∷◌, ◌++◌, length, Some, None}
use Rattle.moo_disk.specs.Disk.{DiskCall, DiskKind, DiskView, KeepsMain, OnlyReads, ReadsBelow}
use Rattle.moo_dbtext_read.specs.Saved.{Saved, SpellsSavedWithin}
use Rattle.moo_checkpoint.specs.Recovering.{IsRecovered}
use Rattle.moo_server_core.specs.Crash.{IsDoneNext, IsOneOf, texts_of_marks, since_done, NoneDone}
use Rattle.moo_server_core.specs.Application.{Layer, Output, silence, then_out}
use Rattle.moo_server_core.specs.Meaning.{State, Entry, Begins, Run}
use Rattle.moo_server_core.specs.declared.event.Event as given
use Rattle.moo_server_core.specs.declared.server_core.ServerCore.{ServerCore}
use Rattle.moo_server_core.specs.Server.{Hands, IsAlive, Ran, WithDisk, entries_of, state_of, traces_under, waiting_of, with_disk}

-- The disk of a call has one of two types. The second may be a wrapper of the first, such as one that makes a call fail.
pub data Lent (D E : Type 0) : Type 0 where
  One : D → Lent D E
  Other : E → Lent D E

abbrev pub lent_fact : {D E : Type 0} → (D → Type 0) → (E → Type 0) → Lent D E → Type 0
lent_fact fact fact' (One disk) = fact disk
lent_fact fact fact' (Other disk) = fact' disk

abbrev pub lent_view : {D E : Type 0} → (D → DiskView) → (E → DiskView) → Lent D E → DiskView
lent_view view view' (One disk) = view disk
lent_view view view' (Other disk) = view' disk

abbrev pub lent_count : {D E : Type 0} → (D → ℕ) → (E → ℕ) → Lent D E → ℕ
lent_count count count' (One disk) = count disk
lent_count count count' (Other disk) = count' disk

abbrev pub lent_made : {D E : Type 0} → (DiskCall → D → D → Type 0) → (DiskCall → E → E → Type 0) → DiskCall → Lent D E → Lent D E → Type 0
lent_made made made' call (One old) (One new) = made call old new
lent_made made made' call (Other old) (Other new) = made' call old new
lent_made made made' call old new = ⊥

-- such a disk is seen as its own type has it
abbrev pub lent : {D E : Type 0} → DiskKind D → DiskKind E → DiskKind (Lent D E)
lent kind kind' = record {
  view = lent_view kind.view kind'.view;
  honest = lent_fact kind.honest kind'.honest;
  has_spare = lent_fact kind.has_spare kind'.has_spare;
  failures = lent_count kind.failures kind'.failures;
  made = lent_made kind.made kind'.made;
}

-- A disk is handed on as another value: perhaps it was put into a wrapper, or taken out of one. Main reads as before, and a crash
-- leaves no more than before.
pub record HandsOn {D : Type 0} (kind : DiskKind D) (old new : D) : Type 0 where
  pub main : kind.honest old → KeepsMain (kind.view old) (kind.view new)
  pub honest_still : kind.honest old → kind.honest new

-- a call of `run`: what was handed out before it, how it found the server and the disk, and what it left
pub record Call (S D : Type 0) : Type 0 where
  pub handed : Output
  pub before : ServerCore S
  pub old : D
  pub events : List given.Event
  pub done : ℕ
  pub entries : List (Entry Saved)
  pub server : ServerCore S
  pub disk : D

-- all that was handed out before these calls
abbrev pub handed_in : {S D : Type 0} → List (Call S D) → Output
handed_in [] = silence
handed_in (call ∷ calls) = then_out call.handed (handed_in calls)

module _ {S Application : Type 0} (l : Layer S Application Saved) where
  -- A server was opened from a saved world at a moment. The disk was read, no other call was made, and nothing was written.
  pub record Opened {D : Type 0} (kind : DiskKind D) (server : ServerCore S) (old new : D) (saved : Saved) (moment : ℕ) : Type 0 where
    pub alive : IsAlive server
    pub no_checkpoint : server.writing ≡ None
    pub begins : Begins l.meaning saved moment (waiting_of l server) (state_of l server)
    -- main spells no other world within the limits than the one that it began from
    pub only : kind.honest old → (s : Saved) → l.meaning.Spells (kind.view old).main_text s → s ≡ saved
    pub main : kind.honest old → KeepsMain (kind.view old) (kind.view new)
    pub reads : OnlyReads kind 65536 old new
    -- each read is at one of main's bytes or its end, so there is at most one more than bytes
    pub few : kind.honest old → ReadsBelow kind 65536 (length (kind.view old).main_text + 1) old new
    pub honest_still : kind.honest old → kind.honest new

  -- the call was a run over such a disk
  pub record IsRun {D : Type 0} (kind : DiskKind D) {X : Type 0} (call : Call S X) (old new : D) : Type 0 where
    pub ran : Ran l kind (with_disk call.before old) (with_disk call.server new) call.events call.done
    pub entries : entries_of ran.taken ≡ call.entries
    pub honest_still : kind.honest old → kind.honest new

  module _ {D E : Type 0} (kind : DiskKind D) (kind' : DiskKind E) where
    abbrev pub IsCallOf : Call S (Lent D E) → Lent D E → Lent D E → Type 0
    IsCallOf call (One old) (One new) = IsRun kind call old new
    IsCallOf call (Other old) (Other new) = IsRun kind' call old new
    IsCallOf call old new = ⊥

    -- These calls lead from a server and its disk to another state of both. Between two calls output may be taken, and the disk
    -- be handed on. The entries are those of all their events.
    abbrev pub Calls : WithDisk S (Lent D E) → List (Call S (Lent D E)) → WithDisk S (Lent D E) → List (Entry Saved) → Type 0
    Calls from [] to entries = (to.server ≡ from.server) × (to.disk ≡ from.disk) × (entries ≡ [])
    Calls from (call ∷ calls) to entries =
        Hands l call.handed from.server call.before × HandsOn (lent kind kind') from.disk call.old
        × IsCallOf call call.old call.disk
        × (rest : List (Entry Saved)) × Calls (with_disk call.server call.disk) calls to rest × (entries ≡ call.entries ++ rest)

    -- A server was opened over an honest disk and was given calls, and all of it stopped at some moment.
    pub record Stopped : Type 0 where
      -- the disk before the start: each text that a crash may leave of it spells this saved world within the limits
      pub first : D
      pub honest_first : kind.honest first
      pub saved : Saved
      pub spelled : (c : List ℕ) → (kind.view first).may_leave c → SpellsSavedWithin c saved
      -- the server that was opened over it from that world, and the disk that the start left
      pub start : ServerCore S
      pub opened_disk : D
      pub moment : ℕ
      pub opened : Opened kind start first opened_disk saved moment
      -- the calls that had returned, the events that they took, and the server and the disk after them
      pub returned : List (Call S (Lent D E))
      pub entries : List (Entry Saved)
      pub server : ServerCore S
      pub disk : Lent D E
      pub before : Calls (with_disk start (One opened_disk)) returned (with_disk server disk) entries
      -- the calls after those, in one of which the stop came or after them, the events that they took, and what they left
      pub further : List (Call S (Lent D E))
      pub later : List (Entry Saved)
      pub end : ServerCore S
      pub last : Lent D E
      pub after : Calls (with_disk server disk) further (with_disk end last) later
      -- a text that a crash since the first of these calls may have left under main
      pub left : List ℕ
      pub leaves : ((lent kind kind').view last).left_since ((lent kind kind').view disk).clock left

  -- What a crash leaves after the calls of `entries` and before the end of those of `later`: the text of the mark of the last report
  -- done in `entries`, or of a later mark. If none was done, it may also be what a crash left before the start, which is `at_first`.
  abbrev pub LeavesMarked : (List ℕ → Type 0) → List (Entry Saved) → List (Entry Saved) → List ℕ → Type 0
  LeavesMarked at_first entries later c =
      (NoneDone (traces_under l.meaning entries) × at_first c)
      ⊎ IsOneOf (since_done [] (traces_under l.meaning entries) ++ texts_of_marks (traces_under l.meaning later)) c

  -- This is the saved world after a prefix of these events that ends with a mark. `returned` are the events of the calls that have returned.
  pub record IsPrefix (start : State Application) (returned entries : List (Entry Saved)) (saved : Saved) : Type 0 where
    pub prefix : List (Entry Saved)
    pub last : Entry Saved
    pub rest : List (Entry Saved)
    pub state : State Application
    pub all : entries ≡ (prefix ++ last ∷ []) ++ rest
    pub marked : last.mark ≡ Some saved
    pub run : Run l.meaning start (prefix ++ last ∷ []) state
    pub world : saved ≡ l.meaning.saved_of state.sessions
    -- it holds each event up to a mark whose checkpoint was reported done in a call that has returned
    pub enough : (front following : List (Entry Saved)) (e : Entry Saved) → returned ≡ front ++ e ∷ following → e.mark ≢ None
        → IsDoneNext (traces_under l.meaning following) → length front ≤ length prefix

  -- A text that spells, within the limits, the saved world after such a prefix, if the calls of `entries` have returned. If no report
  -- in them was done, it may spell the world that was read at the start, which is `first`.
  pub record IsKept (start : State Application) (first : Saved) (entries later : List (Entry Saved)) (c : List ℕ) : Type 0 where
    pub saved : Saved
    pub spelled : l.meaning.Spells c saved
    pub which : (NoneDone (traces_under l.meaning entries) × (saved ≡ first)) ⊎ IsPrefix start entries (entries ++ later) saved

  -- A start over this disk reads such a world: main spells it within the limits of database texts, `recover` returns it, or reports that the
  -- device failed or memory ran out, and a server that is opened over the disk begins from it.
  pub record StartsAgain {D : Type 0} (kind : DiskKind D) (start : State Application) (first : Saved) (entries later : List (Entry Saved)) (found : D) : Type 0 where
    pub saved : Saved
    pub spelled : SpellsSavedWithin (kind.view found).main_text saved
    pub which : (NoneDone (traces_under l.meaning entries) × (saved ≡ first)) ⊎ IsPrefix start entries (entries ++ later) saved
    pub recovers : IsRecovered (kind.view found).main_text saved
    pub begins : (server : ServerCore S) (new : D) (again : Saved) (moment : ℕ) → Opened kind server found new again moment → again ≡ saved

-- From what holds of every list of calls to what a stopped server leaves.
use Rattle.std.proofs.Common.{◌≡◌, ℕ, List, [], ◌∷◌, ◌++◌, refl, sym, ◌∙◌, ap, subst}
use Rattle.moo_disk.specs.Disk.{DiskKind}
use Rattle.moo_dbtext_read.specs.Saved.{Saved, SpellsSavedWithin}
use Rattle.moo_server_core.specs.Application.{Layer}
use Rattle.moo_server_core.specs.Meaning.{Entry}
use Rattle.moo_server_core.specs.Calls.{Call, Calls, Lent, One, Opened, StartsAgain, lent}
use Rattle.moo_server_core.specs.Server.{state_of, with_disk}
use Rattle.moo_server_core.specs.declared.server_core.ServerCore.{ServerCore}
use Rattle.moo_cli_serve.specs.Found.{FindsAgain, ServedTo, clock_after, entries_in}
use Rattle.moo_cli_serve.specs.declared.limits.Limits.{Limits}

module _ {S Application D : Type 0} (l : Layer S Application Saved) (kind : DiskKind D) where
  abbrev LentCall : Type 0
  LentCall = Call S (Lent D D)

  abbrev Chain : ServerCore S → Lent D D → List LentCall → ServerCore S → Lent D D → List (Entry Saved) → Type 0
  Chain before old calls after new entries = Calls l kind kind (with_disk before old) calls (with_disk after new) entries

  all_entries : (calls : List LentCall) (before after : ServerCore S) (old new : Lent D D) (entries : List (Entry Saved))
      → Chain before old calls after new entries → entries ≡ entries_in calls
  all_entries [] before after old new entries chain = chain.2
  all_entries (call ∷ calls) before after old new entries chain =
      chain.5 ∙ ap (λ (es : List (Entry Saved)). call.entries ++ es) (all_entries calls call.server after call.disk new chain.3 chain.4)

  -- some calls, and then the others
  record Parted (before : ServerCore S) (old : Lent D D) (calls others : List LentCall) (after : ServerCore S) (new : Lent D D) : Type 0 where
    server : ServerCore S
    disk : Lent D D
    first : Chain before old calls server disk (entries_in calls)
    second : Chain server disk others after new (entries_in others)
    clock : ((lent kind kind).view disk).clock ≡ clock_after kind ((lent kind kind).view old).clock calls

  parted : (calls others : List LentCall) (before after : ServerCore S) (old new : Lent D D) (entries : List (Entry Saved))
      → Chain before old (calls ++ others) after new entries → Parted before old calls others after new
  parted [] others before after old new entries chain = record {
    server = before;
    disk = old;
    first = (refl, refl, refl);
    second = subst (λ (es : List (Entry Saved)). Chain before old others after new es) (all_entries others before after old new entries chain) chain;
    clock = refl;
  }
  parted (call ∷ calls) others before after old new entries chain =
      let p = parted calls others call.server after call.disk new chain.3 chain.4 in record {
        server = p.server;
        disk = p.disk;
        first = (chain.0, chain.1, chain.2, entries_in calls, p.first, refl);
        second = p.second;
        clock = p.clock;
      }

  module _ {E : Type 0} (kind' : DiskKind E) where
    -- a stop after some calls
    abbrev pub IsFoundAfter : Type 0
    IsFoundAfter = (start server end : ServerCore S) (first opened : D) (disk last : Lent D D) (before after : List LentCall)
        (entries later : List (Entry Saved)) (saved : Saved) (moment : ℕ)
        → kind.honest first → Opened l kind start first opened saved moment
        → ((c : List ℕ) → (kind.view first).may_leave c → SpellsSavedWithin c saved)
        → Chain start (One opened) before server disk entries → Chain server disk after end last later
        → (found : E) → kind'.honest found
        → ((lent kind kind).view last).left_since ((lent kind kind).view disk).clock (kind'.view found).main_text
        → StartsAgain l kind' (state_of l start) saved entries later found

    -- a stop since the start began
    abbrev pub IsFoundSince : Type 0
    IsFoundSince = (start end : ServerCore S) (first opened : D) (last : Lent D D) (calls : List LentCall)
        (entries : List (Entry Saved)) (saved : Saved) (moment : ℕ)
        → kind.honest first → Opened l kind start first opened saved moment
        → ((c : List ℕ) → (kind.view first).may_leave c → SpellsSavedWithin c saved)
        → Chain start (One opened) calls end last entries
        → (found : E) → kind'.honest found
        → ((lent kind kind).view last).left_since (kind.view first).clock (kind'.view found).main_text
        → StartsAgain l kind' (state_of l start) saved [] entries found

    pub found_again : IsFoundAfter → IsFoundSince → (first : D) (limits : Limits) (text : List ℕ) (served : ServedTo l kind first limits text)
        → kind.honest first → ((c : List ℕ) → (kind.view first).may_leave c → SpellsSavedWithin c served.begun.from.saved)
        → (found : E) → kind'.honest found → (kind'.view found).main_text ≡ text → FindsAgain l kind kind' served found
    found_again after since first limits text served h spells found h' same =
        starts_of served.stopped.returned served.stopped.others served.stopped.all
        (subst (λ (t : List ℕ). (kind.view served.end.disk).left_since (clock_after kind (kind.view first).clock served.stopped.returned) t) (sym same) served.stopped.left)
      where
        starts_of : (returned others : List LentCall) → served.course.calls ≡ returned ++ others
            → (kind.view served.end.disk).left_since (clock_after kind (kind.view first).clock returned) (kind'.view found).main_text
            → StartsAgain l kind' (state_of l served.start.server) served.begun.from.saved (entries_in returned) (entries_in others) found
        starts_of [] others all left =
            let whole = subst (λ (calls : List LentCall). Chain served.start.server (One served.start.disk) calls served.course.last (One served.end.disk) served.course.entries) all served.course.chain in
            since served.start.server served.course.last first served.start.disk (One served.end.disk) others (entries_in others) served.begun.from.saved served.start.moment h served.begun.from.opened spells
            (subst (λ (es : List (Entry Saved)). Chain served.start.server (One served.start.disk) others served.course.last (One served.end.disk) es)
            (all_entries others served.start.server served.course.last (One served.start.disk) (One served.end.disk) served.course.entries whole) whole)
            found h' left
        starts_of (call ∷ calls) others all left =
            let p = parted (call ∷ calls) others served.start.server served.course.last (One served.start.disk) (One served.end.disk) served.course.entries
            (subst (λ (cs : List LentCall). Chain served.start.server (One served.start.disk) cs served.course.last (One served.end.disk) served.course.entries) all served.course.chain) in
            after served.start.server p.server served.course.last first served.start.disk p.disk (One served.end.disk) (call ∷ calls) others (entries_in (call ∷ calls)) (entries_in others)
            served.begun.from.saved served.start.moment h served.begun.from.opened spells p.first p.second found h'
            (subst (λ (clock : ℕ). (kind.view served.end.disk).left_since clock (kind'.view found).main_text) (sym p.clock) left)

-- The report of a checkpoint.
use Rattle.std.proofs.Common.{◌≡◌, ℕ, List, Option, Some, None, Result, Ok, Err, OnOk, Bool, refl, sym, ◌∙◌, ap, subst, inl}
use Rattle.std.specs.Prelude.{if◌then◌else◌}
use Rattle.moo_disk.specs.Disk.{DiskKind, LeavesOnly}
use Rattle.moo_checkpoint.specs.Checkpoint.{text_of, turns_left}
use Rattle.moo_checkpoint.proofs.TurnLemmas.{continues_like, fresh_continues}
use Rattle.moo_server_core.specs.declared.event.Course.TheVariants.{Closed}
use Rattle.moo_server_core.specs.declared.server_core.Open.{Open}
use Rattle.moo_server_core.specs.declared.server_core.ServerCore.{ServerCore}
use Rattle.moo_server_core.specs.Traces.{Report, Done}
use Rattle.moo_server_core.specs.Crash.{IsOneOf}
use Rattle.moo_server_core.specs.Turns.{CountsReport}
use Rattle.moo_server_core.specs.Application.{Finishes, Layer, Meaning, Output, then_out}
use Rattle.moo_server_core.specs.Meaning.{Hears, State, is_done}
use Rattle.moo_server_core.specs.Server.{OpenFollows, Opens, Turns, is_last_of, state_of, text_of_open, turns_of, under_way_of}

pub on_ok_map : {T E P Q : Type 0} (result : Result T E) → (P → Q) → OnOk result P → OnOk result Q
on_ok_map (Ok x) f p = f p
on_ok_map (Err e) f p = p

-- a disk that shows what another one does goes on if that one does
pub follows_like : {D E : Type 0} (kind : DiskKind D) (kind' : DiskKind E) (writing : Option Open) (disk : D) (disk' : E)
    → kind'.view disk' ≡ kind.view disk → (kind'.honest disk' → kind.honest disk) → (kind.has_spare disk → kind'.has_spare disk')
    → OpenFollows kind writing disk → OpenFollows kind' writing disk'
follows_like kind kind' None disk disk' same honest has_spare follows = tt
follows_like kind kind' (Some o) disk disk' same honest has_spare follows = continues_like kind kind' o.checkpoint disk disk' same honest has_spare follows

some_is : {r s : Report} → Some r ≡ Some s → r ≡ s
some_is is = cc

-- a mark's checkpoint may be given any disk
pub opens_follow : {Application Saved D : Type 0} (m : Meaning Application Saved) (kind : DiskKind D) (mark : Option Saved) (old new : Option Open) (disk : D)
    → Opens m mark old new → OpenFollows kind old disk → OpenFollows kind new disk
opens_follow m kind None old new disk opens follows = subst (λ (w : Option Open). OpenFollows kind w disk) (sym opens) follows
opens_follow m kind (Some saved) old new disk opens follows =
    subst (λ (w : Option Open). OpenFollows kind w disk) (sym opens.1) (fresh_continues kind opens.0.checkpoint disk opens.2)

module _ {S Application Saved : Type 0} (l : Layer S Application Saved) {D : Type 0} (kind : DiskKind D) where
  -- a turn that ended the checkpoint, and what `checkpoint_finished` did
  pub turns : (before after : ServerCore S) (taken : Option Open) (o : Open) (old new : D) (report : Report)
      → before.writing ≡ Some o → taken ≡ None → after.writing ≡ taken
      → (report ≡ Done → kind.honest old → LeavesOnly (text_of o.checkpoint) (kind.view new)) → (report ≡ Done → turns_left o.checkpoint ≡ 1) → CountsReport (Some report) (kind.failures old) (kind.failures new)
      → ((out : Output) × (mid : State Application) × Hears l.meaning (Finishes (is_done report)) (state_of l (record before { writing = taken })) out mid
      × (state_of l after ≡ record mid { course = if o.is_last then Closed else mid.course }) × (under_way_of l after ≡ then_out (under_way_of l before) out))
      → (r : Option Report) × (out : Output) × Turns l.meaning kind (state_of l before) (state_of l after) before.writing after.writing old new r out
      × (under_way_of l after ≡ then_out (under_way_of l before) out)
  turns before after taken o old new report was none left done last counts h = (
    Some report,
    h.0,
    record {
      reports = (refl, o.is_last, ap is_last_of was, h.1, hears, h.3);
      unreported = λ is. absurd (cc);
      one_less = λ is. absurd (cc);
      reported = λ _. left ∙ none;
      done = λ is h' c left'. subst (λ (texts : List (List ℕ)). IsOneOf texts c) (sym (ap text_of_open was)) (inl (done (some_is is) h' c left'));
      last = λ is. ap turns_of was ∙ last (some_is is);
      counts = counts;
    },
    h.4,
  )
    where
      hears : Hears l.meaning (Finishes (is_done report)) (record (state_of l before) { writing = None }) h.0 h.1
      hears = subst (λ (w : Option Bool). Hears l.meaning (Finishes (is_done report)) (record (state_of l before) { writing = w }) h.0 h.1) (ap is_last_of none) h.2

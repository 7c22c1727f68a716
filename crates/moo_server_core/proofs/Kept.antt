-- Lives begin from worlds that those before them keep.
use Rattle.std.proofs.Common.{◌≡◌, ◌⊎◌, inl, inr, ⊎_elim, ℕ, List, [], ◌∷◌, refl, sym, ◌∙◌, ap, subst}
use Rattle.std.proofs.lemmas.List.{append-nil}
use Rattle.moo_disk.specs.Disk.{DiskKind, DiskView, LeavesOnly}
use Rattle.moo_dbtext_read.specs.Saved.{Saved}
use Rattle.moo_server_core.specs.Application.{Layer}
use Rattle.moo_server_core.specs.Traces.{Trace}
use Rattle.moo_server_core.specs.Crash.{Survives, since_done}
use Rattle.moo_server_core.specs.Meaning.{Entry}
use Rattle.moo_server_core.specs.Server.{Lived, done_of, on_its_way, state_of, text_of_open, traces_under, with_disk}
use Rattle.moo_server_core.proofs.Joining.{Texts, one_of_left}
use Rattle.moo_server_core.proofs.Running.{lived_of}
use Rattle.moo_server_core.proofs.Marked.{IsMarkAt, mark_at, mark_is_prefix, place_done}
use Rattle.moo_server_core.specs.declared.life.LifeStop.{LifeStop}
use Rattle.moo_server_core.specs.declared.life.LifeStop.TheVariants.{Crash, ServerOnly}
use Rattle.moo_server_core.specs.Lives.{IsLife, IsStopped, LifeRun, Lives}
use Rattle.moo_server_core.specs.Marks.{BeginFromKept, IsKeptIn, IsMarked, KeptAfter, ReportsNone}

module _ {S Application D : Type 0} (l : Layer S Application Saved) (kind : DiskKind D) (images : D → List (List ℕ)) where
  -- it spells a world that these lives keep, the last of them first
  abbrev SpellsKept : List (LifeRun S D) → List ℕ → Type 0
  SpellsKept lives c = (saved : Saved) × l.meaning.Spells c saved × IsKeptIn l lives saved

  -- after a crash main alone is left
  abbrev IsAlone : LifeStop → DiskView → Type 0
  IsAlone (Crash i) disk = LeavesOnly disk.main_text disk
  IsAlone ServerOnly disk = Unit {0}

  -- a disk after these lives, the last of them first
  abbrev IsAfter : List (LifeRun S D) → D → Type 0
  IsAfter [] disk = LeavesOnly (kind.view disk).main_text (kind.view disk)
  IsAfter (last ∷ earlier) disk = IsAlone last.stop (kind.view disk) × ((c : List ℕ) → (kind.view disk).may_leave c → SpellsKept (last ∷ earlier) c)

  -- what a crash leaves after a life: what it left before, if none of its checkpoints was reported done, or the text of a mark
  left_by : (run : LifeRun S D) → kind.honest run.old → IsLife l kind run → (c : List ℕ) → (kind.view run.new).may_leave c
      → (ReportsNone l run × (kind.view run.old).may_leave c) ⊎ ((saved : Saved) × l.meaning.Spells c saved × IsMarked l run saved)
  left_by run h is c left =
      ⊎_elim (λ was. inl (was.0, at_first was.1))
      (λ one. inr (mark_is_prefix l (state_of l run.start) lived.end run.entries run.entries c lived.run lived.spelled
      (subst (λ (es : List (Entry Saved)). IsMarkAt l es c (place_done traces)) (append-nil run.entries) (mark_at l run.entries [] c (one_of_left (since_done [] traces) [] c one)))))
      (survives.in_the_end c left)
    where
      traces : List Trace
      traces = traces_under l.meaning run.entries

      lived : Lived l kind (with_disk run.start run.opened) (with_disk run.end run.new) run.entries
      lived = subst (λ (es : List (Entry Saved)). Lived l kind (with_disk run.start run.opened) (with_disk run.end run.new) es) is.entries
          (lived_of l kind run.start run.end run.opened run.new run.events (done_of run.result) is.runs.ran)

      at_first : (kind.view run.opened).may_leave c → (kind.view run.old).may_leave c
      at_first left' = ⊎_elim (λ was. was) (λ none. absurd none) ((is.opened.main h).crash.now c left')

      survives : Survives kind run.opened run.new [] (on_its_way run.end) traces
      survives = subst (λ (ts : Texts). Survives kind run.opened run.new ts (on_its_way run.end) traces) (ap text_of_open is.opened.no_checkpoint)
          (lived.survives (is.opened.honest_still h))

  -- the text that was under main at the start spells the world that the life began from
  began : (run : LifeRun S D) → IsLife l kind run → l.meaning.Spells run.main run.saved → LeavesOnly (kind.view run.old).main_text (kind.view run.old)
      → (c : List ℕ) → (kind.view run.old).may_leave c → l.meaning.Spells c run.saved
  began run is spells only c left = subst (λ (t : List ℕ). l.meaning.Spells t run.saved) (is.main ∙ sym (only c left)) spells

  kept_after : (earlier : List (LifeRun S D)) (run : LifeRun S D) → IsAfter earlier run.old → kind.honest run.old → IsLife l kind run → l.meaning.Spells run.main run.saved
      → (c : List ℕ) → (kind.view run.new).may_leave c → SpellsKept (run ∷ earlier) c
  kept_after [] run following h is spells c left =
      ⊎_elim (λ was. (run.saved, began run is spells following c was.1, inr (was.0, refl))) (λ mark. (mark.0, mark.1, inl mark.2)) (left_by run h is c left)
  kept_after (before ∷ earlier) run following h is spells c left =
      ⊎_elim (λ was. by_stop before.stop refl following.0 was) (λ mark. (mark.0, mark.1, inl mark.2)) (left_by run h is c left)
    where
      by_stop : (stop : LifeStop) → before.stop ≡ stop → IsAlone stop (kind.view run.old) → ReportsNone l run × (kind.view run.old).may_leave c → SpellsKept (run ∷ before ∷ earlier) c
      by_stop (Crash i) stop_is alone was = (
        run.saved,
        began run is spells alone c was.1,
        inr (was.0, subst (λ (s : LifeStop). KeptAfter s (run.saved ≡ run.saved) (IsKeptIn l (before ∷ earlier) run.saved)) (sym stop_is) refl),
      )
      by_stop ServerOnly stop_is alone was =
          let kept = following.1 c was.1 in (
            kept.0,
            kept.1,
            inr (was.0, subst (λ (s : LifeStop). KeptAfter s (kept.0 ≡ run.saved) (IsKeptIn l (before ∷ earlier) kept.0)) (sym stop_is) kept.2),
          )

  after_more : (earlier : List (LifeRun S D)) (run : LifeRun S D) (next : D) → IsAfter earlier run.old → kind.honest run.old → IsLife l kind run → l.meaning.Spells run.main run.saved
      → IsStopped kind images run.stop run.new next → IsAfter (run ∷ earlier) next
  after_more earlier run next following h is spells stopped = by_stop run.stop refl stopped
    where
      by_stop : (stop : LifeStop) → run.stop ≡ stop → IsStopped kind images stop run.new next → IsAfter (run ∷ earlier) next
      by_stop ServerOnly stop_is same = (
        subst (λ (s : LifeStop). IsAlone s (kind.view next)) (sym stop_is) tt,
        λ c left. kept_after earlier run following h is spells c (subst (λ (d : D). (kind.view d).may_leave c) same left),
      )
      by_stop (Crash i) stop_is crash =
          let crashed = crash (is.honest_still h) in
          let rest = crashed.left in (
            subst (λ (s : LifeStop). IsAlone s (kind.view next)) (sym stop_is) rest.only,
            λ c left. subst (λ (t : List ℕ). SpellsKept (run ∷ earlier) t) (sym (rest.only c left)) (kept_after earlier run following h is spells (kind.view next).main_text rest.text),
          )

  pub begin_from_kept : (reads : (disk : D) → kind.honest disk → (kind.view disk).may_leave (kind.view disk).main_text)
      (earlier runs : List (LifeRun S D)) (disk last : D) (texts left : Texts) → IsAfter earlier disk → Lives l kind images disk texts runs left last
      → BeginFromKept l earlier runs
  begin_from_kept reads earlier [] disk last texts left following all = tt
  begin_from_kept reads [] (run ∷ runs) disk last texts left following all =
      let one = all.2 in
      begin_from_kept reads (run ∷ []) runs all.1 last all.0 left
      (after_more [] run all.1 (subst (λ (d : D). IsAfter [] d) (sym one.begins_over) following) one.honest_then one.lived one.begins_from one.ends) all.3
  begin_from_kept reads (before ∷ earlier) (run ∷ runs) disk last texts left following all =
      let one = all.2 in
      let following' = subst (λ (d : D). IsAfter (before ∷ earlier) d) (sym one.begins_over) following in
      let found = following'.1 (kind.view run.old).main_text (reads run.old one.honest_then) in
      let same : found.0 ≡ run.saved = one.lived.opened.only one.honest_then found.0 found.1 in (
        subst (λ (s : Saved). IsKeptIn l (before ∷ earlier) s) same found.2,
        begin_from_kept reads (run ∷ before ∷ earlier) runs all.1 last all.0 left
            (after_more (before ∷ earlier) run all.1 following' one.honest_then one.lived one.begins_from one.ends) all.3,
      )

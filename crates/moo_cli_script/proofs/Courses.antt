-- Lines of a script as calls of its server.
use Rattle.std.proofs.Common.{◌≡◌, ◌⊎◌, inl, inr, ℕ, List, [], ◌∷◌, ◌++◌, map, take, Option, Some, None, Ok, refl, sym, ◌∙◌, ap, subst, append_assoc}
use Rattle.std.proofs.lemmas.List.{append-nil}
use Rattle.moo_disk.specs.Disk.{DiskKind, DiskView, KeepsMain, NoText}
use Rattle.moo_disk.specs.FailAt.{inner_of}
use Rattle.moo_disk.specs.Memory.{view_of}
use Rattle.moo_disk.specs.declared.memory.MemoryDisk.{MemoryDisk}
use Rattle.moo_disk.proofs.GainsLemmas.{gains_join, gains_less, gains_none}
use Rattle.moo_dbtext_read.specs.Saved.{Saved}
use Rattle.moo_server_core.specs.Application.{Layer, Output, silence, then_out}
use Rattle.moo_server_core.specs.Meaning.{Entry}
use Rattle.moo_server_core.specs.Seen.{Event, seen}
use Rattle.moo_server_core.specs.Server.{Hands, Runs, entries_of, with_disk}
use Rattle.moo_server_core.specs.Calls.{Call, Calls, HandsOn, IsCallOf, Lent, One, Other, lent}
use Rattle.moo_server_core.specs.declared.event.Event as given
use Rattle.moo_server_core.specs.declared.server_core.ServerCore.{ServerCore}
use Rattle.moo_cli_script.specs.ScriptLines.{Step, opening, typing, sending, hanging_up, moment, flushing, failing, reopening, crashing, showing}
use Rattle.moo_cli_script.specs.declared.script.Script.{Script}
use Rattle.moo_cli_script.specs.Script.{Does, ScriptDisk, Takes as TakesEvent, disk_view, event_of, script_kind}
use Rattle.moo_cli_script.specs.Playing.{IsTaken, Takes}
use Rattle.moo_cli_script.specs.Course.{AreAsked, AreRuns, Course, IsOpening, IsSetToFail, NoneOpens, taken_in, with_event}
use Rattle.moo_cli_script.proofs.Handed.{hands_join, hands_none}

-- ---- a disk that is handed on

keeps_join : (old mid new : DiskView) → KeepsMain old mid → KeepsMain mid new → KeepsMain old new
keeps_join old mid new h k = record {
  text = k.text ∙ h.text;
  crash = gains_less (λ c. NoText c ⊎ NoText c) NoText old new none (gains_join NoText NoText old mid new h.crash k.crash);
}
  where
    none : (c : List ℕ) → NoText c ⊎ NoText c → NoText c
    none c (inl h) = h
    none c (inr h) = h

on_join : {D : Type 0} (kind : DiskKind D) (a b c : D) → HandsOn kind a b → HandsOn kind b c → HandsOn kind a c
on_join kind a b c first second = record {
  main = λ h. keeps_join (kind.view a) (kind.view b) (kind.view c) (first.main h) (second.main (first.honest_still h));
  honest_still = λ h. second.honest_still (first.honest_still h);
}

keeps_none : (disk : ScriptDisk) → KeepsMain (disk_view disk) (disk_view disk)
keeps_none disk = record { text = refl; crash = gains_none NoText (disk_view disk) }

-- with the same disk within
on_same : (a b : ScriptDisk) → inner_of b ≡ inner_of a → HandsOn script_kind a b
on_same a b is = record {
  main = λ h. subst (λ (d : MemoryDisk). KeepsMain (view_of (inner_of a)) (view_of d)) (sym is) (keeps_none a);
  honest_still = λ h. h;
}

abbrev LentDisk : Type 0
LentDisk = Lent ScriptDisk ScriptDisk

on_lent : (a b : ScriptDisk) → IsSetToFail a b → HandsOn (lent script_kind script_kind) (One a) (One b)
on_lent a b set = record { main = (on_same a b set).main; honest_still = λ h. h }

abbrev within : LentDisk → ScriptDisk
within (One disk) = disk
within (Other disk) = disk

with_append : (o : Option Event) (events : List Event) → with_event o [] ++ events ≡ with_event o events
with_append None events = refl
with_append (Some event) events = refl

module _ {S Application : Type 0} (l : Layer S Application Saved) where
  abbrev LentCall : Type 0
  LentCall = Call S LentDisk

  abbrev Chain : ServerCore S → LentDisk → List LentCall → ServerCore S → LentDisk → List (Entry Saved) → Type 0
  Chain before old calls after new entries = Calls l script_kind script_kind (with_disk before old) calls (with_disk after new) entries

  course_none : (server : ServerCore S) (disk : ScriptDisk) → Course l server disk [] server disk
  course_none server disk = record {
    calls = [];
    entries = [];
    last = server;
    disk = disk;
    chain = (refl, refl, refl);
    runs = tt;
    taken = refl;
    handed = silence;
    hands = hands_none l server;
    set = refl;
  }

  -- then some of what waits is handed out
  course_hands : (before mid after : ServerCore S) (old new : ScriptDisk) (events : List Event) (h : Output)
      → Course l before old events mid new → Hands l h mid after → Course l before old events after new
  course_hands before mid after old new events h course hands = record {
    calls = course.calls;
    entries = course.entries;
    last = course.last;
    disk = course.disk;
    chain = course.chain;
    runs = course.runs;
    taken = course.taken;
    handed = then_out course.handed h;
    hands = hands_join l course.handed h course.last mid after course.hands hands;
    set = course.set;
  }

  -- then another call of the disk is set to fail
  course_set : (before after : ServerCore S) (old mid new : ScriptDisk) (events : List Event)
      → Course l before old events after mid → IsSetToFail mid new → Course l before old events after new
  course_set before after old mid new events course set = record {
    calls = course.calls;
    entries = course.entries;
    last = course.last;
    disk = course.disk;
    chain = course.chain;
    runs = course.runs;
    taken = course.taken;
    handed = course.handed;
    hands = course.hands;
    set = set ∙ course.set;
  }

  -- one call of one event
  course_one : (before after : ServerCore S) (old new : ScriptDisk) (event : given.Event)
      → Runs l script_kind (with_disk before old) (with_disk after new) (event ∷ []) (Ok 1) → Course l before old (seen event ∷ []) after new
  course_one before after old new event runs = record {
    calls = record { handed = silence; before = before; old = One old; events = event ∷ []; done = 1; entries = entries_of runs.ran.taken; server = after; disk = One new } ∷ [];
    entries = entries_of runs.ran.taken;
    last = after;
    disk = new;
    chain = (
      hands_none l before,
      on_lent old old refl,
      record { ran = runs.ran; entries = refl; honest_still = λ h. h },
      [],
      (refl, refl, refl),
      sym (append-nil (entries_of runs.ran.taken)),
    );
    runs = (
      record {
        event = event;
        events_are = refl;
        set = old;
        set_is = refl;
        over = refl;
        left = new;
        left_is = refl;
        done_is = refl;
        runs = runs;
        entries_are = refl;
      },
      tt,
    );
    taken = refl;
    handed = silence;
    hands = hands_none l after;
    set = refl;
  }

  -- ---- two, one after another

  -- the calls after other calls are such runs over the disk that those left
  runs_append : (xs ys : List LentCall) (s m : ServerCore S) (disk between : ScriptDisk) (es : List (Entry Saved))
      → Chain s (One disk) xs m (One between) es → AreRuns l disk xs → AreRuns l between ys → AreRuns l disk (xs ++ ys)
  runs_append [] ys s m disk between es chain runs runs' = subst (λ (d : ScriptDisk). AreRuns l d ys) (ap within chain.1) runs'
  runs_append (x ∷ xs) ys s m disk between es chain runs runs' = (
    runs.0,
    runs_append xs ys x.server m runs.0.left between chain.3 (subst (λ (d : LentDisk). Chain x.server d xs m (One between) chain.3) runs.0.left_is chain.4) runs.1 runs',
  )

  taken_append : (xs ys : List LentCall) → taken_in (xs ++ ys) ≡ taken_in xs ++ taken_in ys
  taken_append [] ys = refl
  taken_append (x ∷ xs) ys =
      ap (λ (es : List Event). map seen (take x.done x.events) ++ es) (taken_append xs ys)
      ∙ sym (append_assoc (map seen (take x.done x.events)) (taken_in xs) (taken_in ys))

  chain_append : (xs ys : List LentCall) (s m e : ServerCore S) (ds dm de : LentDisk) (es es' : List (Entry Saved))
      → Chain s ds xs m dm es → Chain m dm ys e de es' → Chain s ds (xs ++ ys) e de (es ++ es')
  chain_append [] ys s m e ds dm de es es' chain chain' =
      subst (λ (a : List (Entry Saved)). Chain s ds ys e de (a ++ es')) (sym chain.2)
      (subst (λ (a : ServerCore S). Chain a ds ys e de es') chain.0
      (subst (λ (d : LentDisk). Chain m d ys e de es') chain.1 chain'))
  chain_append (x ∷ xs) ys s m e ds dm de es es' chain chain' = (
    chain.0,
    chain.1,
    chain.2,
    chain.3 ++ es',
    chain_append xs ys x.server m e x.disk dm de chain.3 es' chain.4 chain',
    ap (λ (a : List (Entry Saved)). a ++ es') chain.5 ∙ append_assoc x.entries chain.3 es',
  )

  -- what was handed out before a call is no part of it
  of_call : (call : LentCall) (h : Output) (old new : LentDisk) → IsCallOf l script_kind script_kind call old new
      → IsCallOf l script_kind script_kind (record call { handed = h }) old new
  of_call call h (One old) (One new) run = record { ran = run.ran; entries = run.entries; honest_still = run.honest_still }
  of_call call h (Other old) (Other new) run = record { ran = run.ran; entries = run.entries; honest_still = run.honest_still }
  of_call call h (One old) (Other new) run = absurd run
  of_call call h (Other old) (One new) run = absurd run

  course_join : (before mid after : ServerCore S) (old between new : ScriptDisk) (events events' : List Event)
      → Course l before old events mid between → Course l mid between events' after new → Course l before old (events ++ events') after new
  course_join before mid after old between new events events' first second = by_calls second.calls second.chain second.runs second.taken
    where
      by_calls : (calls : List LentCall) → Chain mid (One between) calls second.last (One second.disk) second.entries → AreRuns l between calls → taken_in calls ≡ events'
          → Course l before old (events ++ events') after new
      by_calls [] chain runs taken = record {
        calls = first.calls;
        entries = first.entries;
        last = first.last;
        disk = first.disk;
        chain = first.chain;
        runs = first.runs;
        taken = first.taken ∙ sym (append-nil events) ∙ ap (λ (es : List Event). events ++ es) taken;
        handed = then_out first.handed second.handed;
        hands = hands_join l first.handed second.handed first.last mid after first.hands
            (subst (λ (s : ServerCore S). Hands l second.handed s after) chain.0 second.hands);
        set = subst (λ (d : ScriptDisk). IsSetToFail d new) (ap within chain.1) second.set ∙ first.set;
      }
      by_calls (call ∷ calls) chain runs taken =
          record {
            calls = first.calls ++ (record call { handed = then_out first.handed call.handed }) ∷ calls;
            entries = first.entries ++ second.entries;
            last = second.last;
            disk = second.disk;
            chain = chain_append first.calls ((record call { handed = then_out first.handed call.handed }) ∷ calls) before first.last second.last (One old) (One first.disk) (One second.disk) first.entries second.entries first.chain (
              hands_join l first.handed call.handed first.last mid call.before first.hands chain.0,
              on_join (lent script_kind script_kind) (One first.disk) (One between) call.old (on_lent first.disk between first.set) chain.1,
              of_call call (then_out first.handed call.handed) call.old call.disk chain.2,
              chain.3,
              chain.4,
              chain.5,
            );
            runs = runs_append first.calls ((record call { handed = then_out first.handed call.handed }) ∷ calls) before first.last old first.disk first.entries first.chain first.runs (
              record {
                event = runs.0.event;
                events_are = runs.0.events_are;
                set = runs.0.set;
                set_is = runs.0.set_is ∙ first.set;
                over = runs.0.over;
                left = runs.0.left;
                left_is = runs.0.left_is;
                done_is = runs.0.done_is;
                runs = runs.0.runs;
                entries_are = runs.0.entries_are;
              },
              runs.1,
            );
            taken = taken_append first.calls ((record call { handed = then_out first.handed call.handed }) ∷ calls) ∙ ap (λ (es : List Event). es ++ taken_in (call ∷ calls)) first.taken
                ∙ ap (λ (es : List Event). events ++ es) taken;
            handed = second.handed;
            hands = second.hands;
            set = second.set;
          }

  -- ---- a step, and lines

  taken_event : (e : Event) (old new : Script S) → TakesEvent l e old new → Course l old.server old.disk (e ∷ []) new.server new.disk
  taken_event e old new takes =
      subst (λ (x : Event). Course l old.server old.disk (x ∷ []) new.server new.disk) takes.run.event_is
      (course_one old.server new.server old.disk new.disk takes.run.given_event takes.run.runs)

  step_is_calls : (s : Step) (old new : Script S) → (IsOpening s → ⊥) → Does l s old new
      → Course l old.server old.disk (with_event (event_of s) []) new.server new.disk
  step_is_calls (opening c) old new none does = taken_event _ old new does
  step_is_calls (typing c text) old new none does = taken_event _ old new does
  step_is_calls (sending c bytes) old new none does = taken_event _ old new does
  step_is_calls (hanging_up c) old new none does = taken_event _ old new does
  step_is_calls (moment t) old new none does = taken_event _ old new does
  step_is_calls flushing old new none does = taken_event _ old new does
  step_is_calls (failing k effect) old new none does =
      subst (λ (s : ServerCore S). Course l old.server old.disk [] s new.disk) (sym does.server)
      (course_set old.server old.server old.disk old.disk new.disk [] (course_none old.server old.disk) does.fails.within)
  step_is_calls reopening old new none does = absurd (none tt)
  step_is_calls (crashing i) old new none does = absurd (none tt)
  step_is_calls showing old new none does =
      subst (λ (s : Script S). Course l old.server old.disk [] s.server s.disk) (sym does) (course_none old.server old.disk)

  -- a line, and what is handed out after it
  line_is_calls : (line text : List ℕ) (old new : Script S) → (taken : IsTaken l line old new text) → (IsOpening taken.step → ⊥)
      → Course l old.server old.disk (with_event (event_of taken.step) []) new.server new.disk
  line_is_calls line text old new taken none =
      let done = step_is_calls taken.step old taken.done none taken.does in
      subst (λ (d : ScriptDisk). Course l old.server old.disk (with_event (event_of taken.step) []) new.server d) (sym taken.hands.disk)
      (course_hands old.server taken.done.server new.server old.disk taken.done.disk (with_event (event_of taken.step) []) taken.hands.hands.0 done taken.hands.hands.1)

  pub are_calls : (lines : List (List ℕ)) (start end : Script S) (text : List ℕ) → Takes l start lines end text → NoneOpens lines
      → (events : List Event) × AreAsked lines events × Course l start.server start.disk events end.server end.disk
  are_calls [] start end text takes none =
      ([], refl, subst (λ (s : Script S). Course l start.server start.disk [] s.server s.disk) (sym takes.0) (course_none start.server start.disk))
  are_calls (line ∷ lines) start end text takes none =
      let taken = takes.3 in
      let first = line_is_calls line takes.1 start takes.0 taken (λ opens. none.0 taken.step taken.asks opens) in
      let others = are_calls lines takes.0 end takes.2 takes.4 none.1 in (
        with_event (event_of taken.step) others.0,
        (taken.step, others.0, taken.asks, others.1, refl),
        subst (λ (es : List Event). Course l start.server start.disk es end.server end.disk) (with_append (event_of taken.step) others.0)
            (course_join start.server takes.0.server end.server start.disk takes.0.disk end.disk (with_event (event_of taken.step) []) others.0 first others.2),
      )

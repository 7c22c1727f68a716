-- Courses of a server, one after another.
use Rattle.std.proofs.Common.{◌≡◌, ℕ, List, [], ◌∷◌, ◌++◌, length, map, take, Option, false, Ok, Err, refl, sym, ◌∙◌, ap, subst, append_assoc, arith}
use Rattle.std.specs.Prelude.{Result, if◌then◌else◌, slice_index_or}
use Rattle.std.proofs.lemmas.List.{append-nil}
use Rattle.moo_disk.specs.Disk.{DiskKind, KeepsMain}
use Rattle.moo_dbtext_read.specs.Saved.{Saved}
use Rattle.moo_server_core.specs.Application.{Layer, Output, silence, then_out}
use Rattle.moo_server_core.specs.Meaning.{Entry, out_of}
use Rattle.moo_server_core.specs.Seen.{seen as seen_event}
use Rattle.moo_server_core.specs.Seen as seen
use Rattle.moo_server_core.specs.Server.{Follows, Hands, OpenFollows, Runs, Same, done_of, entries_of, waiting_of, with_disk}
use Rattle.moo_server_core.specs.Calls.{Call, Calls, IsCallOf, Lent, One, Other}
use Rattle.moo_server_core.specs.declared.event.Event.{Event}
use Rattle.moo_server_core.specs.declared.event.Event.TheVariants as the
use Rattle.moo_server_core.specs.declared.event.RunFault.{RunFault}
use Rattle.moo_server_core.specs.declared.server_core.Open.{Open}
use Rattle.moo_server_core.specs.declared.server_core.ServerCore.{ServerCore}
use Rattle.moo_server_core.proofs.Joining.{gains_none}
use Rattle.moo_server_core.proofs.Running.{waits_of}
use Rattle.moo_cli_serve.specs.Course.{AreRuns, Course, Given, hangs_up, sent_after, taken_in}

-- ---- what is handed out

out_assoc : (a b c : Output) → then_out (then_out a b) c ≡ then_out a (then_out b c)
out_assoc a b c = λ i. record {
  sent = λ n. append_assoc (a.sent n) (b.sent n) (c.sent n) i;
  logged = append_assoc a.logged b.logged c.logged i;
}

-- in what is no hang-up nobody hangs up
pub unheard : (event : Event) → ((k : ℕ) → event ≡ the.Hangup k → ⊥) → (c : ℕ) → hangs_up c (seen_event event) ≡ false
unheard (the.Open k) differs c = refl
unheard (the.Bytes k piece) differs c = refl
unheard (the.Hangup k) differs c = absurd (differs k refl)
unheard (the.Moment moment) differs c = refl
unheard the.Flush differs c = refl

module _ {S Application : Type 0} (l : Layer S Application Saved) where
  same_none : (server : ServerCore S) → Same l server server
  same_none server = record { state = refl; writing = refl; halted = refl; under_way = λ h. h }

  same_join : (one mid other : ServerCore S) → Same l one mid → Same l mid other → Same l one other
  same_join one mid other a b = record {
    state = b.state ∙ a.state;
    writing = b.writing ∙ a.writing;
    halted = b.halted ∙ a.halted;
    under_way = λ h. b.under_way (a.under_way h);
  }

  pub hands_none : (server : ServerCore S) → Hands l silence server server
  hands_none server = record { same = same_none server; waiting = refl }

  pub hands_join : (h h' : Output) (one mid other : ServerCore S) → Hands l h one mid → Hands l h' mid other → Hands l (then_out h h') one other
  hands_join h h' one mid other a b = record {
    same = same_join one mid other a.same b.same;
    waiting = a.waiting ∙ ap (λ (o : Output). then_out h o) b.waiting ∙ sym (out_assoc h h' (waiting_of l other));
  }

  -- a server goes on with its disk where some of what waits was handed out
  pub follows_on : {D : Type 0} (kind : DiskKind D) (h : Output) (one other : ServerCore S) (disk : D)
      → Hands l h one other → Follows l kind (with_disk one disk) → Follows l kind (with_disk other disk)
  follows_on kind h one other disk hands f = record {
    still = hands.same.under_way f.still;
    continues = subst (λ (w : Option Open). OpenFollows kind w disk) (sym hands.same.writing) f.continues;
  }

  module _ {D : Type 0} (kind : DiskKind D) where
    abbrev LentCall : Type 0
    LentCall = Call S (Lent D D)

    abbrev Chain : ServerCore S → Lent D D → List LentCall → ServerCore S → Lent D D → List (Entry Saved) → Type 0
    Chain before old calls after new entries = Calls l kind kind (with_disk before old) calls (with_disk after new) entries

    pub course_none : (server : ServerCore S) (disk : D) → Course l kind server disk [] server disk
    course_none server disk = record {
      calls = [];
      entries = [];
      last = server;
      handed = silence;
      chain = (refl, refl, refl);
      runs = tt;
      taken = refl;
      hands = hands_none server;
    }

    -- then some of what waits is handed out
    pub course_hands : (before mid after : ServerCore S) (old new : D) (events : List Event) (h : Output)
        → Course l kind before old events mid new → Hands l h mid after → Course l kind before old events after new
    course_hands before mid after old new events h course hands = record {
      calls = course.calls;
      entries = course.entries;
      last = course.last;
      handed = then_out course.handed h;
      chain = course.chain;
      runs = course.runs;
      taken = course.taken;
      hands = hands_join course.handed h course.last mid after course.hands hands;
    }

    keeps_main : (disk : D) → KeepsMain (kind.view disk) (kind.view disk)
    keeps_main disk = record { text = refl; crash = gains_none (kind.view disk) }

    -- one call of one event
    pub course_one : (before after : ServerCore S) (old new : D) (event : Event) (result : Result ℕ RunFault)
        → Runs l kind (with_disk before old) (with_disk after new) (event ∷ []) result → (kind.honest old → kind.honest new)
        → Course l kind before old (take (done_of result) (event ∷ [])) after new
    course_one before after old new event result runs still = record {
      calls =
          record { handed = silence; before = before; old = One old; events = event ∷ []; done = done_of result; entries = entries_of runs.ran.taken; server = after; disk = One new } ∷ [];
      entries = entries_of runs.ran.taken;
      last = after;
      handed = silence;
      chain = (
        hands_none before,
        record { main = λ h. keeps_main old; honest_still = λ h. h },
        record { ran = runs.ran; entries = refl; honest_still = still },
        [],
        (refl, refl, refl),
        sym (append-nil (entries_of runs.ran.taken)),
      );
      runs = (
        record { event = event; events_are = refl; over = refl; left = new; left_is = refl; result = result; done_is = refl; runs = runs; entries_are = refl },
        tt,
      );
      taken = sym (append-nil (take (done_of result) (event ∷ [])));
      hands = hands_none after;
    }

    -- a run that refused it
    pub course_refused : (before after : ServerCore S) (old new : D) (event : Event) (events : List Event) (fault : RunFault)
        → events ≡ event ∷ [] → (kind.honest old → kind.honest new)
        → Runs l kind (with_disk before old) (with_disk after new) events (Err fault) → Course l kind before old (take fault.done (event ∷ [])) after new
    course_refused before after old new event events fault is still runs =
        course_one before after old new event (Err fault) (subst (λ (es : List Event). Runs l kind (with_disk before old) (with_disk after new) es (Err fault)) is runs) still

    -- ---- two, one after the other

    abbrev within : Lent D D → D
    within (One disk) = disk
    within (Other disk) = disk

    runs_append : (xs ys : List LentCall) (s m : ServerCore S) (disk between : D) (es : List (Entry Saved))
        → Chain s (One disk) xs m (One between) es → AreRuns l kind disk xs → AreRuns l kind between ys → AreRuns l kind disk (xs ++ ys)
    runs_append [] ys s m disk between es chain runs runs' = subst (λ (d : D). AreRuns l kind d ys) (ap within chain.1) runs'
    runs_append (x ∷ xs) ys s m disk between es chain runs runs' = (
      runs.0,
      runs_append xs ys x.server m runs.0.left between chain.3 (subst (λ (d : Lent D D). Chain x.server d xs m (One between) chain.3) runs.0.left_is chain.4) runs.1 runs',
    )

    taken_append : (xs ys : List LentCall) → taken_in (xs ++ ys) ≡ taken_in xs ++ taken_in ys
    taken_append [] ys = refl
    taken_append (x ∷ xs) ys =
        ap (λ (es : List Event). take x.done x.events ++ es) (taken_append xs ys) ∙ sym (append_assoc (take x.done x.events) (taken_in xs) (taken_in ys))

    chain_append : (xs ys : List LentCall) (s m e : ServerCore S) (ds dm de : Lent D D) (es es' : List (Entry Saved))
        → Chain s ds xs m dm es → Chain m dm ys e de es' → Chain s ds (xs ++ ys) e de (es ++ es')
    chain_append [] ys s m e ds dm de es es' chain chain' =
        subst (λ (a : List (Entry Saved)). Chain s ds ys e de (a ++ es')) (sym chain.2)
        (subst (λ (a : ServerCore S). Chain a ds ys e de es') chain.0
        (subst (λ (d : Lent D D). Chain m d ys e de es') chain.1 chain'))
    chain_append (x ∷ xs) ys s m e ds dm de es es' chain chain' = (
      chain.0,
      chain.1,
      chain.2,
      chain.3 ++ es',
      chain_append xs ys x.server m e x.disk dm de chain.3 es' chain.4 chain',
      ap (λ (a : List (Entry Saved)). a ++ es') chain.5 ∙ append_assoc x.entries chain.3 es',
    )

    -- what was handed out before a call is no part of it
    of_call : (call : LentCall) (h : Output) (old new : Lent D D) → IsCallOf l kind kind call old new
        → IsCallOf l kind kind (record call { handed = h }) old new
    of_call call h (One old) (One new) run = record { ran = run.ran; entries = run.entries; honest_still = run.honest_still }
    of_call call h (Other old) (Other new) run = record { ran = run.ran; entries = run.entries; honest_still = run.honest_still }
    of_call call h (One old) (Other new) run = absurd run
    of_call call h (Other old) (One new) run = absurd run

    -- the first call finds what was handed out before it
    course_joined : (before mid after : ServerCore S) (old between new : D) (events events' : List Event)
        → (first : Course l kind before old events mid between) → (second : Course l kind mid between events' after new)
        → (both : Course l kind before old (events ++ events') after new) × (both.entries ≡ first.entries ++ second.entries)
    course_joined before mid after old between new events events' first second = by_calls second.calls second.chain second.runs second.taken
      where
        by_calls : (calls : List LentCall) → Chain mid (One between) calls second.last (One new) second.entries → AreRuns l kind between calls → events' ≡ taken_in calls
            → (both : Course l kind before old (events ++ events') after new) × (both.entries ≡ first.entries ++ second.entries)
        by_calls [] chain runs taken = (
          record {
            calls = first.calls;
            entries = first.entries;
            last = first.last;
            handed = then_out first.handed second.handed;
            chain = subst (λ (d : Lent D D). Chain before (One old) first.calls first.last d first.entries) (sym chain.1) first.chain;
            runs = first.runs;
            taken = ap (λ (es : List Event). events ++ es) taken ∙ append-nil events ∙ first.taken;
            hands = hands_join first.handed second.handed first.last mid after first.hands
                (subst (λ (s : ServerCore S). Hands l second.handed s after) chain.0 second.hands);
          },
          sym (append-nil first.entries) ∙ ap (λ (es : List (Entry Saved)). first.entries ++ es) (sym chain.2),
        )
        by_calls (call ∷ calls) chain runs taken = (
          record {
            calls = first.calls ++ (record call { handed = then_out first.handed call.handed }) ∷ calls;
            entries = first.entries ++ second.entries;
            last = second.last;
            handed = second.handed;
            chain = chain_append first.calls ((record call { handed = then_out first.handed call.handed }) ∷ calls) before first.last second.last (One old) (One between) (One new) first.entries second.entries
                first.chain
                (hands_join first.handed call.handed first.last mid call.before first.hands chain.0, chain.1, of_call call (then_out first.handed call.handed) call.old call.disk chain.2, chain.3, chain.4, chain.5);
            runs = runs_append first.calls ((record call { handed = then_out first.handed call.handed }) ∷ calls) before first.last old between first.entries first.chain first.runs (
              record {
                event = runs.0.event;
                events_are = runs.0.events_are;
                over = runs.0.over;
                left = runs.0.left;
                left_is = runs.0.left_is;
                result = runs.0.result;
                done_is = runs.0.done_is;
                runs = runs.0.runs;
                entries_are = runs.0.entries_are;
              },
              runs.1,
            );
            taken = ap (λ (es : List Event). events ++ es) taken ∙ ap (λ (es : List Event). es ++ taken_in (call ∷ calls)) first.taken
                ∙ sym (taken_append first.calls ((record call { handed = then_out first.handed call.handed }) ∷ calls));
            hands = second.hands;
          },
          refl,
        )

    pub course_join : (before mid after : ServerCore S) (old between new : D) (events events' : List Event)
        → Course l kind before old events mid between → Course l kind mid between events' after new
        → Course l kind before old (events ++ events') after new
    course_join before mid after old between new events events' first second = (course_joined before mid after old between new events events' first second).0

    -- ---- what waits of them

    sent_append : (c : ℕ) (waits : List ℕ) (first second : List (Entry Saved)) → sent_after c waits (first ++ second) ≡ sent_after c (sent_after c waits first) second
    sent_append c waits [] second = refl
    sent_append c waits (entry ∷ first) second = sent_append c (if hangs_up c entry.event then [] else waits ++ entry.out.sent c) first second

    pub given_none : (server : ServerCore S) (disk : D) → Given l kind server disk [] server disk
    unfolding course_none
    given_none server disk = record { course = course_none server disk; sent = λ c. refl; logged = sym (append-nil (waiting_of l server).logged) }

    logged_append : (entries others : List (Entry Saved)) → (out_of (entries ++ others)).logged ≡ (out_of entries).logged ++ (out_of others).logged
    logged_append [] others = refl
    logged_append (entry ∷ entries) others =
        ap (λ (lines : List (List ℕ)). entry.out.logged ++ lines) (logged_append entries others)
        ∙ sym (append_assoc entry.out.logged (out_of entries).logged (out_of others).logged)

    pub given_join : (before mid after : ServerCore S) (old between new : D) (events events' : List Event)
        → Given l kind before old events mid between → Given l kind mid between events' after new
        → Given l kind before old (events ++ events') after new
    given_join before mid after old between new events events' first second =
        let both = course_joined before mid after old between new events events' first.course second.course in
        record {
          course = both.0;
          sent = λ c.
              second.sent c ∙ ap (λ (w : List ℕ). sent_after c w second.course.entries) (first.sent c)
              ∙ sym (sent_append c ((waiting_of l before).sent c) first.course.entries second.course.entries)
              ∙ ap (λ (es : List (Entry Saved)). sent_after c ((waiting_of l before).sent c) es) (sym both.1);
          logged =
              second.logged ∙ ap (λ (lines : List (List ℕ)). lines ++ (out_of second.course.entries).logged) first.logged
              ∙ append_assoc (waiting_of l before).logged (out_of first.course.entries).logged (out_of second.course.entries).logged
              ∙ ap (λ (lines : List (List ℕ)). (waiting_of l before).logged ++ lines) (sym (logged_append first.course.entries second.course.entries))
              ∙ ap (λ (es : List (Entry Saved)). (waiting_of l before).logged ++ (out_of es).logged) (sym both.1);
        }

    -- what waits after one event
    sent_one : (c : ℕ) (waits : List ℕ) (event : seen.Event) (entries : List (Entry Saved)) → map (λ entry. entry.event) entries ≡ event ∷ []
        → sent_after c waits entries ≡ (if hangs_up c event then [] else waits ++ (out_of entries).sent c)
    sent_one c waits event [] is = absurd (omega (arith, ap (λ (es : List seen.Event). length es) is))
    sent_one c waits event (entry ∷ []) is =
        ap (λ (e : seen.Event). if hangs_up c e then [] else waits ++ entry.out.sent c) (ap (λ (es : List seen.Event). slice_index_or es 0 event) is)
        ∙ ap (λ (bytes : List ℕ). if hangs_up c event then [] else waits ++ bytes) (sym (append-nil (entry.out.sent c)))
    sent_one c waits event (entry ∷ other ∷ entries) is = absurd (omega (arith, ap (λ (es : List seen.Event). length es) is))

    -- a run that took its only event; then what waited for one who hung up is dropped
    given_ran : (before mid after : ServerCore S) (old new : D) (event : Event) (result : Result ℕ RunFault)
        → (runs : Runs l kind (with_disk before old) (with_disk mid new) (event ∷ []) result) → done_of result ≡ 1 → (kind.honest old → kind.honest new) → ((h : Output) × Hands l h mid after)
        → ((c : ℕ) → (waiting_of l after).sent c ≡ (if hangs_up c (seen_event event) then [] else (waiting_of l mid).sent c))
        → (waiting_of l after).logged ≡ (waiting_of l mid).logged
        → Given l kind before old (take (done_of result) (event ∷ [])) after new
    unfolding course_hands course_one
    given_ran before mid after old new event result runs one still dropped left log = record {
      course = course_hands before mid after old new (take (done_of result) (event ∷ [])) dropped.0 (course_one before mid old new event result runs still) dropped.1;
      sent = λ c.
          left c ∙ ap (λ (w : Output). if hangs_up c (seen_event event) then [] else w.sent c) waits
          ∙ sym (sent_one c ((waiting_of l before).sent c) (seen_event event) (entries_of runs.ran.taken) (runs.ran.events_are ∙ ap (λ (n : ℕ). map seen_event (take n (event ∷ []))) one));
      logged = log ∙ ap (λ (w : Output). w.logged) waits;
    }
      where
        waits : waiting_of l mid ≡ then_out (waiting_of l before) (out_of (entries_of runs.ran.taken))
        waits = waits_of l kind before mid old new (event ∷ []) (done_of result) runs.ran

    pub given_one : (before mid after : ServerCore S) (old new : D) (event : Event) (events : List Event) (done : ℕ)
        → events ≡ event ∷ [] → done ≡ length events → (kind.honest old → kind.honest new)
        → Runs l kind (with_disk before old) (with_disk mid new) events (Ok done) → ((h : Output) × Hands l h mid after)
        → ((c : ℕ) → (waiting_of l after).sent c ≡ (if hangs_up c (seen_event event) then [] else (waiting_of l mid).sent c))
        → (waiting_of l after).logged ≡ (waiting_of l mid).logged
        → Given l kind before old (event ∷ []) after new
    given_one before mid after old new event events done is all still runs dropped left log =
        let one : done ≡ 1 = all ∙ ap (λ (es : List Event). length es) is in
        subst (λ (n : ℕ). Given l kind before old (take n (event ∷ [])) after new) one
        (given_ran before mid after old new event (Ok done) (subst (λ (es : List Event). Runs l kind (with_disk before old) (with_disk mid new) es (Ok done)) is runs) one still dropped left log)

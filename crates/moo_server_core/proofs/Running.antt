-- A run, event by event.
use Rattle.std.proofs.Common.{◌≡◌, ◌≢◌, ◌⊎◌, inl, inr, ⊎_elim, ℕ, ◌+◌, ◌<◌, ◌≤◌, List, [], ◌∷◌, ◌++◌, length, get_or, take, map, Option, Some, None, Ok, Err, Bool, true, false, refl, sym, ◌∙◌, ap, subst, arith}
use Rattle.std.specs.Prelude.{slice_get}
use Rattle.std.proofs.lemmas.List.{append-nil, map-append, map_more, take_all}
use Rattle.std.proofs.lemmas.Option.{slice_get-get_or}
use Rattle.moo_disk.specs.Disk.{DiskKind, Gains}
use Rattle.moo_server_core.specs.Traces.{Done, Trace}
use Rattle.moo_server_core.specs.Crash.{IsOneOf, Survives}
use Rattle.moo_server_core.specs.Turns.{CountsReport, FailsAtMostOnce, IsInTime, turns_after, turns_left_after}
use Rattle.moo_server_core.specs.Seen.{Event, Flush, is_flush, seen}
use Rattle.moo_server_core.specs.Application.{Layer, Output, then_out}
use Rattle.moo_server_core.specs.Meaning.{State, Entry, Run, MayWant, out_of, refusal, trace_of}
use Rattle.moo_server_core.specs.declared.event.Event as given
use Rattle.moo_server_core.specs.declared.event.Cause.{Cause}
use Rattle.moo_server_core.specs.declared.event.Cause.TheVariants.{NoSuchConnection, ConnectionInUse, ClockBack, Memory}
use Rattle.moo_server_core.specs.declared.event.Cause.TheVariants.{Halted as halted_cause, Closed as closed_cause}
use Rattle.moo_server_core.specs.declared.server_core.ServerCore.{ServerCore}
use Rattle.moo_server_core.specs.Server.{Does, DoesTo, EachDoes, FailsAsReported, Halts, HaltsInTurn, HasCause, IsAlive, Lived, MakesCallOf, MarksSpell, Ran, Runs, Same, TakenEvent, entries_of, is_refused, on_its_way, state_of, text_of_open, traces_under, turns_of, waiting_of, wants_memory, was_halted, with_disk}
use Rattle.moo_server_core.proofs.Joining.{Texts, survives_none, survives_join, gains_less, one_of_left}
use Rattle.moo_server_core.proofs.Taken.{flush_is, isnt_flush, one_or_none}
use Rattle.moo_server_core.proofs.Out.{then_silence, then_then}

-- a turn in an event that halts the server
pub survives_halt : {D : Type 0} (kind : DiskKind D) (old new : D) (texts : Texts) → Gains (IsOneOf texts) (kind.view old) (kind.view new) → Survives kind old new texts [] []
survives_halt kind old new texts gains = record {
  always = gains_less (λ c one. one_of_left texts [] c one) gains;
  in_the_end = λ c left. ⊎_elim (λ was. inl (tt, was)) (λ one. inr one) (gains.now c left);
  latest = λ text is. absurd (cc);
}

pub true_or_false : (b : Bool) → (b ≡ true) ⊎ (b ≡ false)
true_or_false true = inl refl
true_or_false false = inr refl

-- it can't be both halted and not
pub not_both : (b : Bool) → b ≡ true → b ≡ false → ⊥
not_both b is isnt = cc

in_time-append : (left : ℕ) (es es' : List Trace) → IsInTime left es → IsInTime (turns_left_after left es) es' → IsInTime left (es ++ es')
in_time-append left [] es' in_time next = next
in_time-append left (f ∷ es) es' in_time next = (in_time.0, in_time.1, in_time-append (turns_after left f) es es' in_time.2 next)

turns-append : (left : ℕ) (es es' : List Trace) → turns_left_after left (es ++ es') ≡ turns_left_after (turns_left_after left es) es'
turns-append left [] es' = refl
turns-append left (f ∷ es) es' = turns-append (turns_after left f) es es'

module _ {S Application Saved : Type 0} (l : Layer S Application Saved) where
  marks-append : (es es' : List (Entry Saved)) → MarksSpell l.meaning es → MarksSpell l.meaning es' → MarksSpell l.meaning (es ++ es')
  marks-append [] es' all all' = all'
  marks-append (f ∷ es) es' all all' = (all.0, marks-append es es' all.1 all')

  pub run_join : (old mid new : State Application) (es es' : List (Entry Saved)) → Run l.meaning old es mid → Run l.meaning mid es' new → Run l.meaning old (es ++ es') new
  run_join old mid new [] es' run run' = subst (λ (s : State Application). Run l.meaning s es' new) run run'
  run_join old mid new (e ∷ es) es' run run' = (run.0, run.1, run_join run.0 mid new es es' run.2 run')

  pub traces-append : (es es' : List (Entry Saved)) → traces_under l.meaning (es ++ es') ≡ traces_under l.meaning es ++ traces_under l.meaning es'
  traces-append es es' = map-append (trace_of l.meaning.text_of) es es'

  module _ {D : Type 0} (kind : DiskKind D) where
    pub lived_none : (server : ServerCore S) (disk : D) → Lived l kind (with_disk server disk) (with_disk server disk) []
    lived_none server disk = record {
      end = state_of l server;
      run = refl;
      state = λ _. refl;
      spelled = tt;
      survives = λ _. survives_none kind disk (on_its_way server);
      in_time = tt;
      turns = λ _. refl;
      rests = λ halted. (refl, halted);
    }

    -- events, and then events
    pub lived_join : (before mid after : ServerCore S) (old between new : D) (es es' : List (Entry Saved)) → (kind.honest old → kind.honest between)
        → Lived l kind (with_disk before old) (with_disk mid between) es → Lived l kind (with_disk mid between) (with_disk after new) es'
        → Lived l kind (with_disk before old) (with_disk after new) (es ++ es')
    lived_join before mid after old between new es es' keeps first second = elim (true_or_false mid.halted) [
      | inl halted ↦
          let rests = second.rests halted in
          let none : es ++ es' ≡ es = ap (λ (l : List (Entry Saved)). es ++ l) rests.0 ∙ append-nil es in
          let none_traces : traces_under l.meaning (es ++ es') ≡ traces_under l.meaning es = ap (λ (l' : List (Entry Saved)). traces_under l.meaning l') none in
          record {
            end = first.end;
            run = subst (λ (l' : List (Entry Saved)). Run l.meaning (state_of l before) l' first.end) (sym none) first.run;
            state = λ alive. absurd (not_both after.halted rests.1 alive);
            spelled = marks-append es es' first.spelled second.spelled;
            survives = both;
            in_time = subst (λ (ts : List Trace). IsInTime (turns_of before.writing) ts) (sym none_traces) first.in_time;
            turns = λ alive. absurd (not_both after.halted rests.1 alive);
            rests = λ was. (none ∙ (first.rests was).0, rests.1);
          }
      | inr alive ↦
          let state_is : state_of l mid ≡ first.end = first.state alive in
          let turns_is : turns_of mid.writing ≡ turns_left_after (turns_of before.writing) (traces_under l.meaning es) = first.turns alive in
          let all : traces_under l.meaning (es ++ es') ≡ traces_under l.meaning es ++ traces_under l.meaning es' = traces-append es es' in
          record {
            end = second.end;
            run = run_join (state_of l before) first.end second.end es es' first.run (subst (λ (s : State Application). Run l.meaning s es' second.end) state_is second.run);
            state = second.state;
            spelled = marks-append es es' first.spelled second.spelled;
            survives = both;
            in_time = subst (λ (ts : List Trace). IsInTime (turns_of before.writing) ts) (sym all)
                (in_time-append (turns_of before.writing) (traces_under l.meaning es) (traces_under l.meaning es') first.in_time
                (subst (λ (n : ℕ). IsInTime n (traces_under l.meaning es')) turns_is second.in_time));
            turns = λ alive'. second.turns alive' ∙ ap (λ (n : ℕ). turns_left_after n (traces_under l.meaning es')) turns_is
                ∙ sym (turns-append (turns_of before.writing) (traces_under l.meaning es) (traces_under l.meaning es'))
                ∙ ap (λ (ts : List Trace). turns_left_after (turns_of before.writing) ts) (sym all);
            rests = λ was. absurd (not_both mid.halted ((first.rests was).1) alive);
          }
    ]
      where
        both : kind.honest old → Survives kind old new (on_its_way before) (on_its_way after) (traces_under l.meaning (es ++ es'))
        both h = subst (λ (ts : List Trace). Survives kind old new (on_its_way before) (on_its_way after) ts) (sym (traces-append es es'))
            (survives_join kind old between new (on_its_way before) (on_its_way mid) (on_its_way after) (traces_under l.meaning es) (traces_under l.meaning es') (one_or_none mid.writing)
            (first.survives h) (second.survives (keeps h)))

    -- then nothing but what waits is another
    pub lived_same : (before mid after : ServerCore S) (old new : D) (es : List (Entry Saved)) → Same l mid after
        → Lived l kind (with_disk before old) (with_disk mid new) es → Lived l kind (with_disk before old) (with_disk after new) es
    lived_same before mid after old new es same lived = record {
      end = lived.end;
      run = lived.run;
      state = λ alive. same.state ∙ lived.state (sym same.halted ∙ alive);
      spelled = lived.spelled;
      survives = λ h. subst (λ (ts : Texts). Survives kind old new (on_its_way before) ts (traces_under l.meaning es)) (sym (ap text_of_open same.writing)) (lived.survives h);
      in_time = lived.in_time;
      turns = λ alive. ap turns_of same.writing ∙ lived.turns (sym same.halted ∙ alive);
      rests = λ was. let rests = lived.rests was in (rests.0, same.halted ∙ rests.1);
    }

    -- one event
    lived_one : (before : ServerCore S) (old : D) (one : TakenEvent S Saved D) → DoesTo l kind (with_disk before old) one
        → Lived l kind (with_disk before old) (with_disk one.server one.disk) (one.entry ∷ [])
    lived_one before old one does_to =
        let does = does_to.does in
        record {
          end = state_of l one.server;
          run = (state_of l one.server, does.takes, refl);
          state = λ _. refl;
          spelled = (does.spelled, tt);
          survives = does.survives;
          in_time = does.in_time;
          turns = λ _. does.turns;
          rests = λ halted. absurd (not_both before.halted halted does_to.alive_before);
        }

    -- an event that halts the server
    lived_halt : (before mid after : ServerCore S) (old between new : D) (es : List (Entry Saved)) → (kind.honest old → kind.honest between)
        → Halts l kind (with_disk mid between) (with_disk after new) → Lived l kind (with_disk before old) (with_disk mid between) es → Lived l kind (with_disk before old) (with_disk after new) es
    lived_halt before mid after old between new es keeps halts lived = record {
      end = lived.end;
      run = lived.run;
      state = λ alive. absurd (not_both after.halted halts.halted alive);
      spelled = lived.spelled;
      survives = λ h. subst (λ (ts : List Trace). Survives kind old new (on_its_way before) (on_its_way after) ts) (append-nil (traces_under l.meaning es))
          (survives_join kind old between new (on_its_way before) (on_its_way mid) (on_its_way after) (traces_under l.meaning es) [] (one_or_none mid.writing)
          (lived.survives h) (halts.survives (keeps h)));
      in_time = lived.in_time;
      turns = λ alive. absurd (not_both after.halted halts.halted alive);
      rests = λ was. absurd (not_both mid.halted ((lived.rests was).1) halts.alive_before);
    }

    -- ---- events, one after another

    honest_each : (taken : List (TakenEvent S Saved D)) (before after : ServerCore S) (old new : D) → EachDoes l kind (with_disk before old) taken (with_disk after new) → kind.honest old → kind.honest new
    honest_each [] before after old new each h = subst kind.honest (sym each.1) h
    honest_each (one ∷ taken) before after old new each h = honest_each taken one.server after one.disk new each.1 (each.0.honest_still h)

    lived_each : (taken : List (TakenEvent S Saved D)) (before after : ServerCore S) (old new : D) → EachDoes l kind (with_disk before old) taken (with_disk after new)
        → Lived l kind (with_disk before old) (with_disk after new) (entries_of taken)
    lived_each [] before after old new each =
        subst (λ (s : ServerCore S). Lived l kind (with_disk before old) (with_disk s new) []) (sym each.0)
        (subst (λ (d : D). Lived l kind (with_disk before old) (with_disk before d) []) (sym each.1) (lived_none before old))
    lived_each (one ∷ taken) before after old new each =
        lived_join before one.server after old one.disk new (one.entry ∷ []) (entries_of taken) each.0.honest_still
        (lived_one before old one each.0) (lived_each taken one.server after one.disk new each.1)

    waits_each : (taken : List (TakenEvent S Saved D)) (before after : ServerCore S) (old new : D) → EachDoes l kind (with_disk before old) taken (with_disk after new)
        → waiting_of l after ≡ then_out (waiting_of l before) (out_of (entries_of taken))
    waits_each [] before after old new each = ap (λ (s : ServerCore S). waiting_of l s) each.0 ∙ sym (then_silence (waiting_of l before))
    waits_each (one ∷ taken) before after old new each =
        waits_each taken one.server after one.disk new each.1 ∙ ap (λ (o : Output). then_out o (out_of (entries_of taken))) each.0.waiting
        ∙ then_then (waiting_of l before) one.entry.out (out_of (entries_of taken))

    done_each : (taken : List (TakenEvent S Saved D)) (before after : ServerCore S) (old new : D) → EachDoes l kind (with_disk before old) taken (with_disk after new) → kind.honest old
        → (entry : Entry Saved) → entries_of taken ≡ entry ∷ [] → entry.report ≡ Some Done
        → (c : List ℕ) → (kind.view new).may_leave c → IsOneOf (on_its_way before) c
    done_each [] before after old new each h entry is done_is c left = absurd (cc)
    done_each (one ∷ []) before after old new each h entry is done_is c left =
        let same : one.entry ≡ entry = cc in
        each.0.does.done h (ap (λ (e : Entry Saved). e.report) same ∙ done_is) c (subst (λ (d : D). (kind.view d).may_leave c) each.1.1 left)
    done_each (one ∷ other ∷ taken) before after old new each h entry is done_is c left = absurd (cc)

    -- ---- a run

    -- a run's events are one life
    pub lived_of : (before after : ServerCore S) (old new : D) (events : List given.Event) (done : ℕ) → (ran : Ran l kind (with_disk before old) (with_disk after new) events done)
        → Lived l kind (with_disk before old) (with_disk after new) (entries_of ran.taken)
    lived_of before after old new events done ran =
        ⊎_elim
        (λ same. subst (λ (s : ServerCore S). Lived l kind (with_disk before old) (with_disk s new) (entries_of ran.taken)) (sym same.0)
        (subst (λ (d : D). Lived l kind (with_disk before old) (with_disk ran.reached d) (entries_of ran.taken)) (sym same.1) so_far))
        (λ halts. lived_halt before ran.reached after old ran.disk new (entries_of ran.taken)
        (honest_each ran.taken before ran.reached old ran.disk ran.each) halts so_far)
        ran.ends
      where
        so_far : Lived l kind (with_disk before old) (with_disk ran.reached ran.disk) (entries_of ran.taken)
        so_far = lived_each ran.taken before ran.reached old ran.disk ran.each

    -- what its events sent waits
    pub waits_of : (before after : ServerCore S) (old new : D) (events : List given.Event) (done : ℕ) → (ran : Ran l kind (with_disk before old) (with_disk after new) events done)
        → waiting_of l after ≡ then_out (waiting_of l before) (out_of (entries_of ran.taken))
    waits_of before after old new events done ran =
        ⊎_elim (λ same. ap (λ (s : ServerCore S). waiting_of l s) same.0) (λ halts. halts.waiting) ran.ends
        ∙ waits_each ran.taken before ran.reached old ran.disk ran.each

    -- after a report done in a run of one event, a crash leaves that checkpoint's text alone
    pub done_of_one : (before after : ServerCore S) (old new : D) (events : List given.Event) (done : ℕ) → (ran : Ran l kind (with_disk before old) (with_disk after new) events done)
        → IsAlive after → kind.honest old → (entry : Entry Saved) → entries_of ran.taken ≡ entry ∷ [] → entry.report ≡ Some Done
        → (c : List ℕ) → (kind.view new).may_leave c → IsOneOf (on_its_way before) c
    done_of_one before after old new events done ran alive h entry is done_is c left =
        ⊎_elim
        (λ same. done_each ran.taken before ran.reached old ran.disk ran.each h entry is done_is c (subst (λ (d : D). (kind.view d).may_leave c) same.1 left))
        (λ halts. absurd (not_both after.halted halts.halted alive))
        ran.ends

    -- one event more
    each_more : (taken : List (TakenEvent S Saved D)) (before mid : ServerCore S) (old between : D) (one : TakenEvent S Saved D) → EachDoes l kind (with_disk before old) taken (with_disk mid between)
        → DoesTo l kind (with_disk mid between) one → EachDoes l kind (with_disk before old) (taken ++ one ∷ []) (with_disk one.server one.disk)
    each_more [] before mid old between one each does = (
      subst (λ (s : ServerCore S). DoesTo l kind (with_disk s old) one) each.0 (subst (λ (d : D). DoesTo l kind (with_disk mid d) one) each.1 does),
      (refl, refl),
    )
    each_more (first ∷ taken) before mid old between one each does = (each.0, each_more taken first.server mid first.disk between one each.1 does)

    fails_more : (taken : List (TakenEvent S Saved D)) (before mid : ServerCore S) (old between : D) (one : TakenEvent S Saved D) → EachDoes l kind (with_disk before old) taken (with_disk mid between)
        → FailsAsReported kind old taken → CountsReport one.entry.report (kind.failures between) (kind.failures one.disk) → FailsAsReported kind old (taken ++ one ∷ [])
    fails_more [] before mid old between one each fails counts =
        (subst (λ (d : D). CountsReport one.entry.report (kind.failures d) (kind.failures one.disk)) each.1 counts, tt)
    fails_more (first ∷ taken) before mid old between one each fails counts =
        (fails.0, fails_more taken first.server mid first.disk between one each.1 fails.1 counts)

    -- a run so far
    pub record Goes (before after : ServerCore S) (old new : D) (events : List given.Event) (done : ℕ) : Type 0 where
      pub taken : List (TakenEvent S Saved D)
      pub events_are : map (λ entry. entry.event) (entries_of taken) ≡ map seen (take done events)
      pub each : EachDoes l kind (with_disk before old) taken (with_disk after new)
      pub fails : FailsAsReported kind old taken

    -- what is known of an event that was taken
    abbrev pub Took : ServerCore S → ServerCore S → D → D → Event → Type 0
    Took mid after between new event = (entry : Entry Saved) × (entry.event ≡ event)
        × Does l.meaning kind (state_of l mid) (state_of l after) mid.writing after.writing between new entry
        × CountsReport entry.report (kind.failures between) (kind.failures new)
        × (waiting_of l after ≡ then_out (waiting_of l mid) entry.out) × IsAlive after

    pub goes_none : (server : ServerCore S) (disk : D) (events : List given.Event) → Goes server server disk disk events 0
    goes_none server disk events = record { taken = []; events_are = refl; each = (refl, refl); fails = tt }

    pub goes_more : (before mid after : ServerCore S) (old between new : D) (events : List given.Event) (done : ℕ) (d : given.Event) → done < length events → d ≡ get_or events done d
        → IsAlive mid → ((seen d ≢ Flush) ⊎ (mid.writing ≡ None) → new ≡ between) → (seen d ≡ Flush → MakesCallOf kind mid.writing between new)
        → (kind.honest between → kind.honest new) → Goes before mid old between events done
        → Took mid after between new (seen d) → Goes before after old new events (done + 1)
    goes_more before mid after old between new events done d lt event_is alive still call keeps goes took =
        let one : TakenEvent S Saved D = record { entry = took.0; server = after; disk = new } in
        record {
          taken = goes.taken ++ one ∷ [];
          events_are = ap (map (λ (e : Entry Saved). e.event)) (map-append (λ (t : TakenEvent S Saved D). t.entry) goes.taken (one ∷ []))
              ∙ map-append (λ (e : Entry Saved). e.event) (entries_of goes.taken) (one.entry ∷ []) ∙ (λ i. goes.events_are i ++ (took.1 ∙ ap seen event_is) i ∷ []) ∙ sym (map_more seen events done d lt);
          each = each_more goes.taken before mid old between one goes.each
              (record { alive_before = alive; alive_after = took.5; does = took.2; waiting = took.4; still = λ nothing. still (⊎_elim (λ other. inl (λ flush. other (took.1 ∙ flush))) (λ none. inr none) nothing); call = λ flush. call (sym took.1 ∙ flush); honest_still = keeps });
          fails = fails_more goes.taken before mid old between one goes.each goes.fails took.3;
        }

    -- all events were taken
    pub runs_all : (before after : ServerCore S) (old new : D) (events : List given.Event) (done : ℕ) → length events ≤ done
        → Goes before after old new events done → Runs l kind (with_disk before old) (with_disk after new) events (Ok (length events))
    runs_all before after old new events done le goes = record {
      ran = record {
        taken = goes.taken;
        events_are = goes.events_are ∙ ap (map seen) (take_all done events le ∙ sym (take_all (length events) events (omega arith)));
        reached = after;
        disk = new;
        each = goes.each;
        ends = inl (refl, refl);
      };
      fails = goes.fails;
      at_most_once = inl refl;
      still = λ event is other. refl;
      refused = tt;
      halts = tt;
    }

    -- a halted server takes none
    pub runs_halted : (server : ServerCore S) (disk : D) (events : List given.Event) → server.halted ≡ true
        → Runs l kind (with_disk server disk) (with_disk server disk) events (Err (record { done = 0; cause = halted_cause }))
    runs_halted server disk events halted = record {
      ran = record { taken = []; events_are = refl; reached = server; disk = disk; each = (refl, refl); ends = inl (refl, refl) };
      fails = tt;
      at_most_once = inl refl;
      still = λ event is other. refl;
      refused = was_halted (slice_get events 0) halted;
      halts = λ memory event is flush. absurd (cc);
    }

  module _ {D : Type 0} (kind : DiskKind D) (before mid after : ServerCore S) (old between new : D) (events : List given.Event) (done : ℕ) (d : given.Event) where
    -- a run that ends before its last event
    abbrev Ends : Cause → Type 0
    Ends cause = Runs l kind (with_disk before old) (with_disk after new) events (Err (record { done = done; cause = cause }))

    -- a refused event leaves the run as it was, and a halt all that a crash may leave
    pub run_stops : (cause : Cause) → done < length events → d ≡ get_or events done d → IsAlive before → IsAlive mid
        → FailsAtMostOnce (kind.failures between) (kind.failures new) → (cause ≡ Memory → seen d ≡ Flush → HaltsInTurn kind mid.writing between new) → ((seen d ≢ Flush) ⊎ (mid.writing ≡ None) → new ≡ between)
        → (cause ≡ Memory → (after.halted ≡ true) × (waiting_of l after ≡ waiting_of l mid)
        × (kind.honest between → Survives kind between new (on_its_way mid) (on_its_way after) []))
        → (cause ≡ Memory → MayWant l.meaning (state_of l mid) (seen d))
        → (cause ≢ Memory → (refusal l.meaning (state_of l mid) (seen d) ≡ Some cause) × (after ≡ mid) × (new ≡ between))
        → Goes kind before mid old between events done → Ends cause
    run_stops cause lt event_is began alive at_most_once turn still memory wanting other goes = by_cause cause turn memory wanting other
      where
        next : slice_get events done ≡ Some d
        next = slice_get-get_or events done d lt ∙ ap Some (sym event_is)

        ended : (cause : Cause) → ((after ≡ mid) × (new ≡ between)) ⊎ Halts l kind (with_disk mid between) (with_disk after new) → HasCause l before mid after (Some d) cause
            → (cause ≡ Memory → seen d ≡ Flush → HaltsInTurn kind mid.writing between new) → Ends cause
        ended cause ends has turn' = record {
          ran = record { taken = goes.taken; events_are = goes.events_are; reached = mid; disk = between; each = goes.each; ends = ends };
          fails = goes.fails;
          at_most_once = at_most_once;
          still = λ event is nothing. still (⊎_elim (λ other'. inl (λ flush. other' (ap seen (let same : event ≡ d = cc (next, is) in same) ∙ flush))) (λ none. inr none) nothing);
          refused = subst (λ (e : Option given.Event). HasCause l before mid after e cause) (sym next) has;
          halts = λ memory' event is flush. turn' memory' (sym (ap seen (let same : event ≡ d = cc (next, is) in same)) ∙ flush);
        }

        refused : (cause : Cause) → cause ≢ Memory → (refusal l.meaning (state_of l mid) (seen d) ≡ Some cause) × (after ≡ mid) × (new ≡ between) → Ends cause
        refused cause never facts =
            ended cause (inl (facts.1, facts.2)) (is_refused d cause began (ap (λ (s : ServerCore S). s.halted) facts.1 ∙ alive) facts.0) (λ memory'. absurd (never memory'))

        called : (cause : Cause) → cause ≡ Memory → (cause ≡ Memory → seen d ≡ Flush → HaltsInTurn kind mid.writing between new) → (new ≡ between) ⊎ MakesCallOf kind mid.writing between new
        called cause memory' turn' =
            ⊎_elim (λ flush. inr ((turn' memory' (flush_is (seen d) flush)).call)) (λ other'. inl (still (inl (isnt_flush (seen d) other')))) (true_or_false (is_flush (seen d)))

        by_cause : (cause : Cause) → (cause ≡ Memory → seen d ≡ Flush → HaltsInTurn kind mid.writing between new) → (cause ≡ Memory → (after.halted ≡ true) × (waiting_of l after ≡ waiting_of l mid)
            × (kind.honest between → Survives kind between new (on_its_way mid) (on_its_way after) []))
            → (cause ≡ Memory → MayWant l.meaning (state_of l mid) (seen d))
            → (cause ≢ Memory → (refusal l.meaning (state_of l mid) (seen d) ≡ Some cause) × (after ≡ mid) × (new ≡ between))
            → Ends cause
        by_cause Memory turn' memory wanting other =
            let facts = memory refl in
            ended Memory (inr (record { alive_before = alive; halted = facts.0; waiting = facts.1; survives = facts.2; calls = called Memory refl turn' }))
            (wants_memory d began facts.0 (wanting refl)) turn'
        by_cause halted_cause turn' memory wanting other = refused halted_cause (λ is. cc) (other (λ is. cc))
        by_cause NoSuchConnection turn' memory wanting other = refused NoSuchConnection (λ is. cc) (other (λ is. cc))
        by_cause ConnectionInUse turn' memory wanting other = refused ConnectionInUse (λ is. cc) (other (λ is. cc))
        by_cause ClockBack turn' memory wanting other = refused ClockBack (λ is. cc) (other (λ is. cc))
        by_cause closed_cause turn' memory wanting other = refused closed_cause (λ is. cc) (other (λ is. cc))

-- A server that is closed, and the last report of a checkpoint.
use Rattle.std.proofs.Common.{◌≡◌, ◌≢◌, ⊎_elim, ℕ, ◌+◌, ◌<◌, ◌^◌, List, [], ◌∷◌, ◌++◌, Option, Some, None, Bool, true, false, not, refl, sym, ◌∙◌, ap, subst, append_assoc, arith}
use Rattle.std.specs.Prelude.{◌↔◌, IsTrue, MatchBool, if◌then◌else◌}
use Rattle.std.specs.Option.{option_or}
use Rattle.std.proofs.lemmas.List.{append-nil}
use Rattle.moo_disk.specs.Disk.{DiskCall, DiskKind}
use Rattle.moo_dbtext_read.specs.Saved.{Saved}
use Rattle.moo_cli_file_disk.specs.News.{CountsLast}
use Rattle.moo_server_core.specs.Application.{Input, Layer, Meaning, Output}
use Rattle.moo_server_core.specs.Traces.{Report, Done, Failed}
use Rattle.moo_server_core.specs.Turns.{CountsReport}
use Rattle.moo_server_core.specs.Courses.{phase_of}
use Rattle.moo_server_core.specs.Seen.{Event, Open, Bytes, Hangup, Moment, Flush}
use Rattle.moo_server_core.specs.Meaning.{Acts, Entry, Hears, Marks, Passes, Reports, State, Steps, Takes, is_done, is_passed_over, refusal_in}
use Rattle.moo_server_core.specs.Server.{DoesTo, EachDoes, FailsAsReported, Hands, IsAlive, MakesCallOf, Runs, TakenEvent, entries_of, is_last_of, state_of, with_disk}
use Rattle.moo_server_core.specs.Calls.{Call, Calls, Lent, One, Opened, Other}
use Rattle.moo_server_core.specs.declared.event.Course.{Course as Stage}
use Rattle.moo_server_core.specs.declared.event.Course.TheVariants.{Running, Closing, Closed}
use Rattle.moo_server_core.specs.declared.event.Phase.TheVariants as phase
use Rattle.moo_server_core.specs.declared.event.Event as given
use Rattle.moo_server_core.specs.declared.server_core.Open as inner
use Rattle.moo_server_core.specs.declared.server_core.ServerCore.{ServerCore}
use Rattle.moo_cli_serve.specs.Course.{AreRuns, Course, last_report}
use Rattle.moo_cli_serve.specs.Program.{TellsSaved}
use Rattle.moo_cli_serve.specs.Rounds.{IsClosed}
use Rattle.moo_cli_serve.specs.Service.{Begun, IsServed, Serves, events_in}
use Rattle.moo_cli_serve.specs.declared.limits.Limits.{Limits}
use Rattle.moo_cli_serve.specs.declared.serving.Serving.{Serving}
use Rattle.moo_cli_serve.proofs.Events.{course_made}

-- ---- only a report closes a server

closed_is : (halted : Bool) (course : Stage) → phase_of halted course ≡ phase.Closed → (halted ≡ false) × (course ≡ Closed)
closed_is true course is = absurd (cc is)
closed_is false Running is = absurd (cc is)
closed_is false Closing is = absurd (cc is)
closed_is false Closed is = (refl, refl)

open_if : (shuts : Bool) (course : Stage) → course ≢ Closed → (if shuts then Closing else course) ≢ Closed
open_if true course isnt is = absurd (cc is)
open_if false course isnt is = isnt is

module _ {Application : Type 0} (m : Meaning Application Saved) where
  -- what is heard closes no server
  open_heard : (happening : Input) (old new : State Application) (out : Output) → Hears m happening old out new → old.course ≢ Closed → new.course ≢ Closed
  open_heard happening old new out hears isnt is = open_if hears.0.shuts old.course isnt (sym (ap (λ (s : State Application). s.course) hears.4) ∙ is)

  -- nor does an event's own effect
  open_acted : (event : Event) (old new : State Application) (out : Output) → Acts m event old out new → old.course ≢ Closed → new.course ≢ Closed
  open_acted (Open c) old new out acts isnt is = open_heard _ old new out acts isnt is
  open_acted (Bytes c piece) old new out acts isnt is = open_heard _ old new out acts isnt is
  open_acted (Hangup c) old new out acts isnt is = open_heard _ old new out acts isnt is
  open_acted (Moment moment) old new out acts isnt is = isnt (sym (ap (λ (s : State Application). s.course) acts.1) ∙ is)
  open_acted Flush old new out acts isnt is = isnt (sym (ap (λ (s : State Application). s.course) acts.1) ∙ is)

  -- nor a mark
  open_marked : (mark : Option Saved) (old new : State Application) (out : Output) → Marks m mark old out new → old.course ≢ Closed → new.course ≢ Closed
  open_marked None old new out marks isnt is = isnt (sym (ap (λ (s : State Application). s.course) marks.2) ∙ is)
  open_marked (Some saved) old new out marks isnt is =
      open_heard _ old marks.1 out marks.2 isnt (sym (ap (λ (s : State Application). s.course) marks.3) ∙ is)

  -- in a closed server no event is taken
  open_before : (old : State Application) (entry : Entry Saved) (new : State Application) → Takes m old entry new → old.course ≢ Closed
  open_before old entry new takes is = refused old.course is takes.accepted
    where
      refused : (course : Stage) → course ≡ Closed → refusal_in m course old.moment old.sessions entry.event ≡ None → ⊥
      refused Running is none = absurd (cc is)
      refused Closing is none = absurd (cc is)
      refused Closed is none = absurd (cc none)

  -- An event that closes the server is a `Flush` with a report, and a checkpoint was open.
  pub record Closes (old : State Application) (entry : Entry Saved) : Type 0 where
    pub report : Report
    pub report_is : entry.report ≡ Some report
    pub flush : entry.event ≡ Flush
    pub last : Bool
    pub writing : old.writing ≡ Some last

  reported : (old acted after new : State Application) (entry : Entry Saved) (own finished started : Output) → Acts m entry.event old own acted
      → (report : Option Report) → entry.report ≡ report → Reports m entry.event report acted finished after → Marks m entry.mark after started new
      → acted.course ≢ Closed → new.course ≡ Closed → Closes old entry
  reported old acted after new entry own finished started acts None report_is reports marks isnt is =
      absurd (open_marked entry.mark after new started marks (λ c. isnt (sym (ap (λ (s : State Application). s.course) reports.1) ∙ c)) is)
  reported old acted after new entry own finished started acts (Some report) report_is reports marks isnt is = record {
    report = report;
    report_is = report_is;
    flush = reports.0;
    last = reports.1;
    writing = sym (ap (λ (s : State Application). s.writing) (subst (λ (e : Event). Acts m e old own acted) reports.0 acts).1) ∙ reports.2;
  }

  closes : (old : State Application) (entry : Entry Saved) (new : State Application) → Takes m old entry new → new.course ≡ Closed → Closes old entry
  closes old entry new takes is = by (is_passed_over m old entry.event) takes.takes
    where
      by : (passed : Bool) → MatchBool passed (Passes m old entry new) (Steps m old entry new) → Closes old entry
      by true passes = absurd (open_before old entry new takes (ap (λ (s : State Application). s.course) (sym passes.same) ∙ is))
      by false steps =
          reported old steps.acted steps.reported new entry steps.own steps.finished steps.started steps.acts entry.report refl steps.reports steps.marks
          (open_acted entry.event old steps.acted steps.own steps.acts (open_before old entry new takes)) is

module _ {S Application D : Type 0} (l : Layer S Application Saved) (kind : DiskKind D) where
  -- a server that was just opened isn't closed
  started_open : (server : ServerCore S) (old new : D) (saved : Saved) (moment : ℕ) → Opened l kind server old new saved moment → (state_of l server).course ≢ Closed
  started_open server old new saved moment opened closed =
      open_at opened.begins.told.shuts (sym (ap (λ (s : State Application). s.course) opened.begins.state_is) ∙ closed)
    where
      open_at : (shuts : Bool) → (if shuts then Closing else Running) ≡ Closed → ⊥
      open_at true is = absurd (cc is)
      open_at false is = absurd (cc is)

-- ---- the last report

abbrev report_in : Option Report → Report
report_in None = Failed
report_in (Some report) = report

done_if : (report : Report) → not (is_done report) ≡ false → report ≡ Done
done_if Done is = refl
done_if Failed is = absurd (cc is)

last_of_one_more : (front : List (Entry Saved)) (entry : Entry Saved) (report : Report) → entry.report ≡ Some report → last_report (front ++ entry ∷ []) ≡ Some report
last_of_one_more [] entry report is = is
last_of_one_more (e ∷ front) entry report is = ap (λ (r : Option Report). option_or r e.report) (last_of_one_more front entry report is)

-- whether a call failed, and what its event reports
fails_as_reported : (failed : Bool) (report : Report) (before now : ℕ) → CountsReport (Some report) before now → CountsLast failed before now → now + 1 < 2 ^ 64
    → failed ≡ not (is_done report)
fails_as_reported true Done before now counts last few = absurd (⊎_elim (λ risen. omega (arith, risen, counts)) (λ limit. omega (arith, limit.1, few)) last)
fails_as_reported false Done before now counts last few = refl
fails_as_reported true Failed before now counts last few = refl
fails_as_reported false Failed before now counts last few = absurd (⊎_elim (λ risen. omega (arith, risen, last)) (λ limit. omega (arith, limit.1, few)) counts)

module _ {S Application D : Type 0} (l : Layer S Application Saved) (kind : DiskKind D) (has_failed : D → Bool)
    (counts : (call : DiskCall) (old new : D) → kind.made call old new → CountsLast (has_failed new) (kind.failures old) (kind.failures new)) where
  -- If the server is closed, there was a report, and it says whether the last call of the disk failed.
  abbrev IsReported : ServerCore S → D → List (Entry Saved) → Type 0
  IsReported server disk entries =
      IsAlive server → (state_of l server).course ≡ Closed
      → (report : Report) × (last_report entries ≡ Some report) × (kind.failures disk + 1 < 2 ^ 64 → has_failed disk ≡ not (is_done report))

  call_made : (writing : Option inner.Open) (last : Bool) (old new : D) → is_last_of writing ≡ Some last → MakesCallOf kind writing old new
      → (call : DiskCall) × kind.made call old new
  call_made None last old new is makes = absurd (cc is)
  call_made (Some writes) last old new is makes = (makes.call.0, makes.call.2)

  -- an event that closes the server
  one_reported : (before : ServerCore S) (old : D) (one : TakenEvent S Saved D) (front : List (Entry Saved)) → DoesTo l kind (with_disk before old) one
      → CountsReport one.entry.report (kind.failures old) (kind.failures one.disk) → IsReported one.server one.disk (front ++ one.entry ∷ [])
  one_reported before old one front does counted alive closed =
      let c = closes l.meaning (state_of l before) one.entry (state_of l one.server) does.does.takes closed in
      let made = call_made before.writing c.last old one.disk c.writing (does.call c.flush) in (
        c.report,
        last_of_one_more front one.entry c.report c.report_is,
        λ few. fails_as_reported (has_failed one.disk) c.report (kind.failures old) (kind.failures one.disk)
            (subst (λ (r : Option Report). CountsReport r (kind.failures old) (kind.failures one.disk)) c.report_is counted) (counts made.0 old one.disk made.1) few,
      )

  -- the events of a run
  each_reported : (taken : List (TakenEvent S Saved D)) (before : ServerCore S) (old : D) (after : ServerCore S) (new : D) (front : List (Entry Saved))
      → EachDoes l kind (with_disk before old) taken (with_disk after new) → FailsAsReported kind old taken → IsReported before old front
      → IsReported after new (front ++ entries_of taken)
  each_reported [] before old after new front each fails is =
      subst (λ (es : List (Entry Saved)). IsReported after new es) (sym (append-nil front))
      (subst (λ (s : ServerCore S). IsReported s new front) (sym each.0) (subst (λ (d : D). IsReported before d front) (sym each.1) is))
  each_reported (one ∷ taken) before old after new front each fails is =
      subst (λ (es : List (Entry Saved)). IsReported after new es) (append_assoc front (one.entry ∷ []) (entries_of taken))
      (each_reported taken one.server one.disk after new (front ++ one.entry ∷ []) each.1 fails.1 (one_reported before old one front each.0 fails.0))

  run_reported : (before : ServerCore S) (old : D) (after : ServerCore S) (new : D) (events : List given.Event) (result : _) (front : List (Entry Saved))
      → (runs : Runs l kind (with_disk before old) (with_disk after new) events result) → IsReported before old front
      → IsReported after new (front ++ entries_of runs.ran.taken)
  run_reported before old after new events result front runs is = ⊎_elim
      (λ same. subst (λ (s : ServerCore S). IsReported s new (front ++ entries_of runs.ran.taken)) (sym same.0) (subst (λ (d : D). IsReported runs.ran.reached d (front ++ entries_of runs.ran.taken)) (sym same.1) reached))
      (λ halts alive closed. let no : true ≡ false = sym halts.halted ∙ alive in absurd cc)
      runs.ran.ends
    where
      reached : IsReported runs.ran.reached runs.ran.disk (front ++ entries_of runs.ran.taken)
      reached = each_reported runs.ran.taken before old runs.ran.reached runs.ran.disk front runs.ran.each runs.fails is

  -- what is handed out changes nothing of it
  hands_reported : (h : Output) (before after : ServerCore S) (disk : D) (entries : List (Entry Saved)) → Hands l h before after → IsReported before disk entries → IsReported after disk entries
  hands_reported h before after disk entries hands is alive closed =
      is (sym hands.same.halted ∙ alive) (sym (ap (λ (s : State Application). s.course) hands.same.state) ∙ closed)

  abbrev LentCall : Type 0
  LentCall = Call S (Lent D D)

  abbrev within : Lent D D → D
  within (One disk) = disk
  within (Other disk) = disk

  calls_reported : (calls : List LentCall) (before : ServerCore S) (old : D) (after : ServerCore S) (new : D) (entries front : List (Entry Saved))
      → Calls l kind kind (with_disk before (One old)) calls (with_disk after (One new)) entries → AreRuns l kind old calls → IsReported before old front
      → IsReported after new (front ++ entries)
  calls_reported [] before old after new entries front chain runs is =
      subst (λ (es : List (Entry Saved)). IsReported after new es) (sym (append-nil front) ∙ ap (λ (es : List (Entry Saved)). front ++ es) (sym chain.2))
      (subst (λ (s : ServerCore S). IsReported s new front) (sym chain.0) (subst (λ (d : D). IsReported before d front) (sym (ap within chain.1)) is))
  calls_reported (call ∷ calls) before old after new entries front chain runs is =
      subst (λ (es : List (Entry Saved)). IsReported after new es)
      (append_assoc front call.entries chain.3 ∙ ap (λ (es : List (Entry Saved)). front ++ es) (sym chain.5))
      (calls_reported calls call.server runs.0.left after new chain.3 (front ++ call.entries)
      (subst (λ (d : Lent D D). Calls l kind kind (with_disk call.server d) calls (with_disk after (One new)) chain.3) runs.0.left_is chain.4) runs.1
      (subst (λ (es : List (Entry Saved)). IsReported call.server runs.0.left (front ++ es)) (sym runs.0.entries_are)
      (run_reported call.before old call.server runs.0.left call.events runs.0.result front runs.0.runs
      (hands_reported call.handed before call.before old front chain.0 is))))

  -- a course that begins in a server that isn't closed
  pub course_reported : (before : ServerCore S) (old : D) (events : List given.Event) (after : ServerCore S) (new : D) → (course : Course l kind before old events after new)
      → (state_of l before).course ≢ Closed → IsReported after new course.entries
  course_reported before old events after new course isnt =
      hands_reported course.handed course.last after new course.entries course.hands
      (calls_reported course.calls before old course.last new course.entries [] course.chain course.runs (λ alive closed. absurd (isnt closed)))

  -- a server that was served to its end
  pub told_saved : {disk : D} {limits : Limits} {rounds : ℕ} (serves : Serves l kind disk limits rounds) (told : Bool)
      → IsTrue told ↔ (IsClosed serves.end.server × (has_failed serves.end.disk ≡ false)) → TellsSaved l kind serves told
  told_saved {disk} serves told is few = (
    λ yes. let both = is.0 yes in let r = reported_at both.0 in (both.0, r.1 ∙ ap (λ (r : Report). Some r) (done_if r.0 (sym (r.2 few) ∙ both.1))),
    λ saved.
        let r = reported_at saved.0 in
        is.1 (saved.0, r.2 few ∙ ap (λ (r : Report). not (is_done r)) (ap report_in (sym r.1 ∙ saved.1))),
  )
    where
      reported_at : IsClosed serves.end.server
          → (report : Report) × (last_report serves.course.entries ≡ Some report) × (kind.failures serves.end.disk + 1 < 2 ^ 64 → has_failed serves.end.disk ≡ not (is_done report))
      reported_at closed =
          let c = closed_is serves.end.server.halted serves.end.server.course closed in
          course_reported serves.start.server serves.start.disk (events_in l kind serves.served.made serves.start serves.end serves.served.makes) serves.end.server serves.end.disk serves.course
          (started_open l kind serves.start.server disk serves.start.disk serves.begun.from.saved serves.start.moment serves.begun.from.opened) c.0 c.1

  pub saved_so : (limits : Limits) (rounds : ℕ) (disk : D) (start end : Serving S D) (told : Bool) → Begun l kind disk limits start
      → IsServed l kind rounds start end
      → IsTrue told ↔ (IsClosed end.server × (has_failed end.disk ≡ false)) → (serves : Serves l kind disk limits rounds) × TellsSaved l kind serves told
  saved_so limits rounds disk start end told begun served is =
      let course = course_made l kind served.made start end served.makes in (
        record { start = start; end = end; begun = begun; served = served; course = course },
        told_saved (record { start = start; end = end; begun = begun; served = served; course = course }) told is,
      )

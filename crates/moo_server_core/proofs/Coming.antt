-- The report of a checkpoint comes in time.
use Rattle.std.proofs.Common.{◌≡◌, ◌≢◌, inl, inr, ℕ, ◌+◌, ◌/◌, ◌<◌, ◌≤◌, List, [], ◌∷◌, ◌++◌, length, Option, Some, None, Bool, true, false, refl, ◌∙◌, ap, subst, arith}
use Rattle.std.specs.Prelude.{MatchBool, ◌||◌, not, is_none, nat_le}
use Rattle.std.specs.Option.{option_map}
use Rattle.moo_server_core.specs.Traces.{Report, Trace}
use Rattle.moo_server_core.specs.Turns.{IsInTime, HasReport, flush_count, flush_takes, flushes, turns_after, turns_for, turns_left_after, turns_marked, turns_unmarked}
use Rattle.moo_server_core.specs.Courses.{is_closing, is_closed}
use Rattle.moo_server_core.specs.Seen.{Event, Open, Bytes, Hangup, Moment, Flush}
use Rattle.moo_server_core.specs.Application.{Layer, Meaning, Output}
use Rattle.moo_server_core.specs.Meaning.{State, Entry, Acts, Reports, Marks, Passes, Steps, Takes, Run, is_passed_over, trace_of, traces_of}
use Rattle.moo_disk.specs.Disk.{DiskKind}
use Rattle.moo_server_core.specs.declared.server_core.ServerCore.{ServerCore}
use Rattle.moo_server_core.specs.Server.{Lived, state_of, traces_under, turns_of, with_disk}
use Rattle.moo_server_core.proofs.Marked.{last_taken, run_split}
use Rattle.moo_dbtext_read.specs.Saved.{Saved}
use Rattle.moo_server_core.proofs.Idle.{second_and}
use Rattle.moo_server_core.proofs.Running.{traces-append}

-- one turn at most
step : (flush : Bool) (left rest : ℕ) → (left ≡ 1 → flush ≡ true → ⊥) → 0 < left → left ≤ flush_count flush + rest
    → (0 < flush_takes flush left) × (flush_takes flush left ≤ rest)
step true left rest not_last some enough = let not_one : left ≢ 1 = λ is. not_last is refl in (omega arith, omega arith)
step false left rest not_last some enough = (omega arith, omega arith)

pub in_time_after : (left : ℕ) (es es' : List Trace) → IsInTime left (es ++ es') → IsInTime (turns_left_after left es) es'
in_time_after left [] es' in_time = in_time
in_time_after left (e ∷ es) es' in_time = in_time_after (turns_after left e) es es' in_time.2

-- what is in time is so up to any event
in_time_front : (left : ℕ) (es es' : List Trace) → IsInTime left (es ++ es') → IsInTime left es
in_time_front left [] es' in_time = tt
in_time_front left (e ∷ es) es' in_time = (in_time.0, in_time.1, in_time_front (turns_after left e) es es' in_time.2)

pub turns_after_mark : (left : ℕ) (es : List Trace) (e : Trace) (text : List ℕ) → e.mark ≡ Some text → turns_left_after left (es ++ e ∷ []) ≡ turns_for text
turns_after_mark left [] e text is = ap (λ (m : Option (List ℕ)). turns_marked m (turns_unmarked left e.flush e.report)) is
turns_after_mark left (f ∷ es) e text is = turns_after_mark (turns_after left f) es e text is

pub turns_within : (text : List ℕ) → turns_for text ≤ length text / 65536 + 6
turns_within text = omega arith

module _ {Application Saved : Type 0} (m : Meaning Application Saved) where
  acts_writing : (event : Event) (old : State Application) (out : Output) (new : State Application) → Acts m event old out new → new.writing ≡ old.writing
  acts_writing (Open c) old out new acts = ap (λ (s : State Application). s.writing) acts.4
  acts_writing (Bytes c piece) old out new acts = ap (λ (s : State Application). s.writing) acts.4
  acts_writing (Hangup c) old out new acts = ap (λ (s : State Application). s.writing) acts.4
  acts_writing (Moment moment) old out new acts = ap (λ (s : State Application). s.writing) acts.1
  acts_writing Flush old out new acts = ap (λ (s : State Application). s.writing) acts.1

  reports_none : (event : Event) (report : Option Report) (old : State Application) (out : Output) (new : State Application) → report ≡ None → Reports m event report old out new → new ≡ old
  reports_none event None old out new is reports = reports.1
  reports_none event (Some report) old out new is reports = absurd (cc)

  -- while a checkpoint is open no other begins
  marks_open : (mark : Option Saved) (old : State Application) (out : Output) (new : State Application) (last : Bool) → old.writing ≡ Some last → Marks m mark old out new
      → (mark ≡ None) × (new ≡ old)
  marks_open None old out new last is marks = (refl, marks.2)
  marks_open (Some saved) old out new last is marks =
      let none : is_none old.writing ≡ true = second_and (not (is_closed old.course)) (is_none old.writing) (old.asked || nat_le old.due old.moment) marks.0 in
      let some : is_none old.writing ≡ false = ap (λ (w : Option Bool). is_none w) is in
      absurd (cc (none, some))

  takes_open' : (b : Bool) (old new : State Application) (e : Entry Saved) (last : Bool) → MatchBool b (Passes m old e new) (Steps m old e new) → old.writing ≡ Some last → e.report ≡ None
      → (e.mark ≡ None) × (new.writing ≡ Some last)
  takes_open' true old new e last takes is none = (takes.mark, ap (λ (s : State Application). s.writing) takes.same ∙ is)
  takes_open' false old new e last takes is none =
      let acted = acts_writing e.event old takes.own takes.acted takes.acts in
      let same = reports_none e.event e.report takes.acted takes.finished takes.reported none takes.reports in
      let writing : takes.reported.writing ≡ Some last = ap (λ (s : State Application). s.writing) same ∙ acted ∙ is in
      let marked = marks_open e.mark takes.reported takes.started new last writing takes.marks in
      (marked.0, ap (λ (s : State Application). s.writing) marked.1 ∙ writing)

  -- an event without a report, while a checkpoint is open
  by_report : (e : Entry Saved) (es : List (Entry Saved)) (state next : State Application) (left : ℕ) (last : Bool) (report : Option Report) → e.report ≡ report
      → Takes m state e next → state.writing ≡ Some last → IsInTime left (traces_of m.text_of (e ∷ es)) → 0 < left → left ≤ flushes (traces_of m.text_of (e ∷ es))
      → ((n : ℕ) → next.writing ≡ Some last → IsInTime n (traces_of m.text_of es) → 0 < n → n ≤ flushes (traces_of m.text_of es) → HasReport (traces_of m.text_of es))
      → HasReport (traces_of m.text_of (e ∷ es))
  by_report e es state next left last (Some r) same takes is in_time some enough again = inl (λ none. cc)
  by_report e es state next left last None same takes is in_time some enough again =
      let trace : Trace = trace_of m.text_of e in
      let still = takes_open' (is_passed_over m state e.event) state next e last takes.takes is same in
      let turn = step trace.flush left (flushes (traces_of m.text_of es)) (λ one flush. in_time.0 one flush same) some enough in
      let unmarked : option_map m.text_of e.mark ≡ None = ap (option_map m.text_of) still.0 in
      let count : turns_after left trace ≡ flush_takes trace.flush left =
      ap (λ (t : Option (List ℕ)). turns_marked t (turns_unmarked left trace.flush e.report)) unmarked ∙ ap (λ (r : Option Report). turns_unmarked left trace.flush r) same in
      inr (again (flush_takes trace.flush left) still.1 (subst (λ (k : ℕ). IsInTime k (traces_of m.text_of es)) count in_time.2) turn.0 turn.1)

  comes : (es : List (Entry Saved)) (state end : State Application) (left : ℕ) (last : Bool) → Run m state es end → state.writing ≡ Some last
      → IsInTime left (traces_of m.text_of es) → 0 < left → left ≤ flushes (traces_of m.text_of es) → HasReport (traces_of m.text_of es)
  comes [] state end left last run is in_time some enough = absurd (omega (arith, some, enough))
  comes (e ∷ es) state end left last run is in_time some enough =
      by_report e es state run.0 left last e.report refl run.1 is in_time some enough
      (λ n writing in_time' some' enough'. comes es run.0 end n last run.2 writing in_time' some' enough')

  marked_open' : (b : Bool) (old new : State Application) (e : Entry Saved) (saved : Saved) → MatchBool b (Passes m old e new) (Steps m old e new) → e.mark ≡ Some saved
      → (last : Bool) × (new.writing ≡ Some last)
  marked_open' true old new e saved takes is = let none = takes.mark in absurd (cc (none, is))
  marked_open' false old new e saved takes is =
      let marks = subst (λ (k : Option Saved). Marks m k takes.reported takes.started new) is takes.marks in
      (is_closing marks.1.course, ap (λ (s : State Application). s.writing) marks.3)

module _ {S Application : Type 0} (l : Layer S Application Saved) {D : Type 0} (kind : DiskKind D) where
  -- after a mark, the first events that have so many of `Flush` have its report
  pub report_comes : (before after : ServerCore S) (old new : D) (entries front near far : List (Entry Saved)) (e : Entry Saved) (saved : Saved)
      → Lived l kind (with_disk before old) (with_disk after new) entries → entries ≡ (front ++ e ∷ []) ++ (near ++ far) → e.mark ≡ Some saved
      → length (l.meaning.text_of saved) / 65536 + 6 ≤ flushes (traces_under l.meaning near) → HasReport (traces_under l.meaning near)
  report_comes before after old new entries front near far e saved lived all is enough =
      let parts = run_split l (front ++ e ∷ []) (near ++ far) (state_of l before) lived.end (subst (λ (es : List (Entry Saved)). Run l.meaning (state_of l before) es lived.end) all lived.run) in
      let taken = last_taken l front e (state_of l before) parts.0 parts.1 in
      let writes = marked_open' l.meaning (is_passed_over l.meaning taken.0 e.event) taken.0 parts.0 e saved taken.1.takes is in
      let soon = run_split l near far parts.0 lived.end parts.2 in
      let within = turns_within (l.meaning.text_of saved) in
      comes l.meaning near parts.0 soon.0 (turns_for (l.meaning.text_of saved)) writes.0 soon.1 writes.1 in_time (omega arith) (omega (arith, within, enough))
    where
      trace : Trace
      trace = trace_of l.meaning.text_of e

      split : traces_under l.meaning entries ≡ (traces_under l.meaning front ++ trace ∷ []) ++ (traces_under l.meaning near ++ traces_under l.meaning far)
      split = ap (λ (es : List (Entry Saved)). traces_under l.meaning es) all ∙ traces-append l (front ++ e ∷ []) (near ++ far)
          ∙ ap (λ (ts : List Trace). ts ++ traces_under l.meaning (near ++ far)) (traces-append l front (e ∷ []))
          ∙ ap (λ (ts : List Trace). (traces_under l.meaning front ++ trace ∷ []) ++ ts) (traces-append l near far)

      count : turns_left_after (turns_of before.writing) (traces_under l.meaning front ++ trace ∷ []) ≡ turns_for (l.meaning.text_of saved)
      count = turns_after_mark (turns_of before.writing) (traces_under l.meaning front) trace (l.meaning.text_of saved) (ap (option_map l.meaning.text_of) is)

      in_time : IsInTime (turns_for (l.meaning.text_of saved)) (traces_under l.meaning near)
      in_time = in_time_front (turns_for (l.meaning.text_of saved)) (traces_under l.meaning near) (traces_under l.meaning far)
          (subst (λ (n : ℕ). IsInTime n (traces_under l.meaning near ++ traces_under l.meaning far)) count
          (in_time_after (turns_of before.writing) (traces_under l.meaning front ++ trace ∷ []) (traces_under l.meaning near ++ traces_under l.meaning far)
          (subst (λ (ts : List Trace). IsInTime (turns_of before.writing) ts) split lived.in_time)))

-- The moment of a server after an event.
use Rattle.std.proofs.Common.{◌≡◌, List, [], ◌∷◌, map, Option, Some, None, true, false, refl, ◌∙◌, ap, subst}
use Rattle.std.specs.Prelude.{◌&&◌, not, MatchBool, Ok}
use Rattle.moo_disk.specs.Disk.{DiskKind}
use Rattle.moo_dbtext_read.specs.Saved.{Saved}
use Rattle.moo_server_core.specs.Application.{Finishes, Input, HangsUp, Layer, Meaning, Opens, Output, Receives, Starts}
use Rattle.moo_server_core.specs.Courses.{is_closing}
use Rattle.moo_server_core.specs.Traces.{Report}
use Rattle.moo_server_core.specs.Seen.{Event, Open, Bytes, Hangup, Moment, Flush, is_flush, seen}
use Rattle.moo_server_core.specs.Meaning.{Acts, Entry, Hears, Marks, Passes, Reports, Run, State, Steps, Takes, is_done, refusal_in}
use Rattle.moo_server_core.specs.Server.{IsAlive, Runs, entries_of, state_of, with_disk}
use Rattle.moo_server_core.proofs.Running.{lived_of}
use Rattle.moo_server_core.specs.declared.event.Course.{Course}
use Rattle.moo_server_core.specs.declared.event.Course.TheVariants.{Running, Closing, Closed}
use Rattle.moo_server_core.specs.declared.event.Event as given
use Rattle.moo_server_core.specs.declared.server_core.ServerCore.{ServerCore}
use Rattle.moo_cli_script.specs.Works.{moment_at, told_at}

module _ {Application Saved : Type 0} (m : Meaning Application Saved) where
  heard_at : (h : Input) (old new : State Application) (out : Output) → Hears m h old out new → new.moment ≡ old.moment
  heard_at h old new out hears = ap (λ (s : State Application). s.moment) hears.4

  acts_at : (e : Event) (old new : State Application) (out : Output) → Acts m e old out new → new.moment ≡ told_at e old.moment
  acts_at (Open c) old new out acts = heard_at (Opens c) old new out acts
  acts_at (Bytes c piece) old new out acts = heard_at (Receives c piece) old new out acts
  acts_at (Hangup c) old new out acts = heard_at (HangsUp c) old new out acts
  acts_at (Moment t) old new out acts = ap (λ (s : State Application). s.moment) acts.1
  acts_at Flush old new out acts = ap (λ (s : State Application). s.moment) acts.1

  reports_at : (e : Event) (r : Option Report) (old new : State Application) (out : Output) → Reports m e r old out new → new.moment ≡ old.moment
  reports_at e None old new out reports = ap (λ (s : State Application). s.moment) reports.1
  reports_at e (Some r) old new out reports =
      ap (λ (s : State Application). s.moment) reports.5 ∙ heard_at (Finishes (is_done r)) (record old { writing = None }) reports.3 out reports.4

  marks_at : (mark : Option Saved) (old new : State Application) (out : Output) → Marks m mark old out new → new.moment ≡ old.moment
  marks_at None old new out marks = ap (λ (s : State Application). s.moment) marks.2
  marks_at (Some saved) old new out marks = ap (λ (s : State Application). s.moment) marks.3 ∙ heard_at Starts old marks.1 out marks.2

  steps_at : (old new : State Application) (entry : Entry Saved) → Steps m old entry new → new.moment ≡ told_at entry.event old.moment
  steps_at old new entry steps =
      marks_at entry.mark steps.reported new steps.started steps.marks
      ∙ reports_at entry.event entry.report steps.acted steps.reported steps.finished steps.reports
      ∙ acts_at entry.event old steps.acted steps.own steps.acts

  takes_at : (old new : State Application) (entry : Entry Saved) → Takes m old entry new → new.moment ≡ moment_at old.course entry.event old.moment
  takes_at old new entry takes = by old.course entry.event refl refl
    where
      passed : MatchBool true (Passes m old entry new) (Steps m old entry new) → new.moment ≡ old.moment
      passed passes = ap (λ (s : State Application). s.moment) passes.same

      parts : (k : Course) (e : Event) → old.course ≡ k → entry.event ≡ e → MatchBool (is_closing k && not (is_flush e)) (Passes m old entry new) (Steps m old entry new)
      parts k e is same =
          subst (λ (x : Event). MatchBool (is_closing k && not (is_flush x)) (Passes m old entry new) (Steps m old entry new)) same
          (subst (λ (c : Course). MatchBool (is_closing c && not (is_flush entry.event)) (Passes m old entry new) (Steps m old entry new)) is takes.takes)

      stepped : (e : Event) → entry.event ≡ e → MatchBool false (Passes m old entry new) (Steps m old entry new) → new.moment ≡ told_at e old.moment
      stepped e same steps = steps_at old new entry steps ∙ ap (λ (x : Event). told_at x old.moment) same

      by : (k : Course) (e : Event) → old.course ≡ k → entry.event ≡ e → new.moment ≡ moment_at k e old.moment
      by Running e is same = stepped e same (parts Running e is same)
      by Closing (Open c) is same = passed (parts Closing (Open c) is same)
      by Closing (Bytes c piece) is same = passed (parts Closing (Bytes c piece) is same)
      by Closing (Hangup c) is same = passed (parts Closing (Hangup c) is same)
      by Closing (Moment t) is same = passed (parts Closing (Moment t) is same)
      by Closing Flush is same = stepped Flush same (parts Closing Flush is same)
      by Closed e is same =
          let some : refusal_in m Closed old.moment old.sessions entry.event ≡ None = subst (λ (k : Course). refusal_in m k old.moment old.sessions entry.event ≡ None) is takes.accepted in absurd (cc some)

  one_at : (entries : List (Entry Saved)) (e : Event) (old end : State Application) → map (λ (x : Entry Saved). x.event) entries ≡ e ∷ [] → Run m old entries end
      → end.moment ≡ moment_at old.course e old.moment
  one_at [] e old end is run = absurd (cc is)
  one_at (x ∷ []) e old end is run =
      let same : x.event ≡ e = cc is in
      ap (λ (s : State Application). s.moment) run.2 ∙ takes_at old run.0 x run.1 ∙ ap (λ (y : Event). moment_at old.course y old.moment) same
  one_at (x ∷ y ∷ entries) e old end is run = absurd (cc is)

-- a run of one event that was taken
pub run_at : {S Application D : Type 0} (l : Layer S Application Saved) (kind : DiskKind D) (before after : ServerCore S) (old new : D) (e : given.Event)
    → Runs l kind (with_disk before old) (with_disk after new) (e ∷ []) (Ok 1) → IsAlive after → after.moment ≡ moment_at before.course (seen e) before.moment
run_at l kind before after old new e runs alive =
    let lived = lived_of l kind before after old new (e ∷ []) 1 runs.ran in
    ap (λ s. s.moment) (lived.state alive)
    ∙ one_at l.meaning (entries_of runs.ran.taken) (seen e) (state_of l before) lived.end runs.ran.events_are lived.run

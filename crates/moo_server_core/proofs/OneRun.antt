-- One thing comes of a start, and of the same events with the same reports.
use Rattle.std.proofs.Common.{◌≡◌, ℕ, ◌+◌, List, [], ◌∷◌, Option, Some, None, Bool, true, false, refl, sym, ◌∙◌, ap, subst}
use Rattle.std.specs.Prelude.{MatchBool, map, ◌||◌, if◌then◌else◌}
use Rattle.moo_server_core.specs.Application.{Input, Opens, Receives, HangsUp, Starts, Finishes, Meaning, Output, Told, then_out}
use Rattle.moo_server_core.specs.Traces.{Report}
use Rattle.moo_server_core.specs.Courses.{is_closing}
use Rattle.moo_server_core.specs.Seen.{Event, Open, Bytes, Hangup, Moment, Flush}
use Rattle.moo_server_core.specs.declared.event.Course.TheVariants.{Running, Closing, Closed}
use Rattle.moo_server_core.specs.Meaning.{Acts, Begins, Entry, Hears, Marks, Passes, Reports, Run, State, Steps, Takes, begun_at, heard, is_done, is_due, is_passed_over}
use Rattle.moo_server_core.specs.Runs.{Given, HaveOneResult, OneRun, given_of}

entry_is : {Saved : Type 0} (e e' : Entry Saved) → given_of e ≡ given_of e' → e.mark ≡ e'.mark → e.out ≡ e'.out → e ≡ e'
entry_is e e' given mark out = λ i. record { event = (given i).event; report = (given i).report; mark = mark i; out = out i }

module _ {Application Saved : Type 0} (m n : Meaning Application Saved) (single : HaveOneResult m n) where
  one_hears : (happening : Input) (old : State Application) (out out' : Output) (new new' : State Application)
      → Hears m happening old out new → Hears n happening old out' new' → (out ≡ out') × (new ≡ new')
  one_hears happening old out out' new new' hears hears' =
      let same = single.happenings happening old.moment old.sessions hears.0 hears'.0 hears.1 hears'.1 hears.2 hears'.2 in
      let state : heard old hears.0 hears.1 ≡ heard old hears'.0 hears'.1 = λ i. heard old (same.0 i) (same.1 i) in
      (hears.3 ∙ ap (λ (t : Told). t.out) same.0 ∙ sym hears'.3, hears.4 ∙ state ∙ sym hears'.4)

  one_acts : (event : Event) (old : State Application) (out out' : Output) (new new' : State Application)
      → Acts m event old out new → Acts n event old out' new' → (out ≡ out') × (new ≡ new')
  one_acts (Open c) old out out' new new' acts acts' = one_hears (Opens c) old out out' new new' acts acts'
  one_acts (Bytes c piece) old out out' new new' acts acts' = one_hears (Receives c piece) old out out' new new' acts acts'
  one_acts (Hangup c) old out out' new new' acts acts' = one_hears (HangsUp c) old out out' new new' acts acts'
  one_acts (Moment moment) old out out' new new' acts acts' = (acts.0 ∙ sym acts'.0, acts.1 ∙ sym acts'.1)
  one_acts Flush old out out' new new' acts acts' = (acts.0 ∙ sym acts'.0, acts.1 ∙ sym acts'.1)

  one_reports : (event : Event) (report : Option Report) (old : State Application) (out out' : Output) (new new' : State Application)
      → Reports m event report old out new → Reports n event report old out' new' → (out ≡ out') × (new ≡ new')
  one_reports event None old out out' new new' r r' = (r.0 ∙ sym r'.0, r.1 ∙ sym r'.1)
  one_reports event (Some report) old out out' new new' r r' =
      let both : Some r.1 ≡ Some r'.1 = sym r.2 ∙ r'.2 in
      let last : r.1 ≡ r'.1 = cc (both) in
      let same = one_hears (Finishes (is_done report)) (record old { writing = None }) out out' r.3 r'.3 r.4 r'.4 in
      let state : record r.3 { course = if r.1 then Closed else r.3.course } ≡ record r'.3 { course = if r'.1 then Closed else r'.3.course } =
      λ i. record (same.1 i) { course = if last i then Closed else (same.1 i).course } in
      (same.0, r.5 ∙ state ∙ sym r'.5)

  -- the state after a mark, by the interval
  abbrev marked : ℕ → State Application → State Application
  marked interval mid = record mid { due = mid.moment + interval; asked = false; writing = Some (is_closing mid.course) }

  one_marks : (mark mark' : Option Saved) (old : State Application) (out out' : Output) (new new' : State Application)
      → Marks m mark old out new → Marks n mark' old out' new' → (mark ≡ mark') × (out ≡ out') × (new ≡ new')
  one_marks None None old out out' new new' k k' = (refl, k.1 ∙ sym k'.1, k.2 ∙ sym k'.2)
  one_marks None (Some saved') old out out' new new' k k' = let no : is_due m old ≡ false = k.0 in let yes : is_due m old ≡ true = k'.0 in absurd (cc (no, yes))
  one_marks (Some saved) None old out out' new new' k k' = let yes : is_due m old ≡ true = k.0 in let no : is_due m old ≡ false = k'.0 in absurd (cc (no, yes))
  one_marks (Some saved) (Some saved') old out out' new new' k k' =
      let same = one_hears Starts old out out' k.1 k'.1 k.2 k'.2 in
      let moved : marked (m.interval k.1.sessions) k.1 ≡ marked (m.interval k'.1.sessions) k'.1 = λ i. marked (m.interval (same.1 i).sessions) (same.1 i) in
      let timed : marked (m.interval k'.1.sessions) k'.1 ≡ marked (n.interval k'.1.sessions) k'.1 = λ i. marked (single.interval k'.1.sessions i) k'.1 in
      let state : new ≡ new' = k.3 ∙ moved ∙ timed ∙ sym k'.3 in
      let world : saved ≡ saved' = k.4 ∙ ap (λ (s : State Application). m.saved_of s.sessions) state ∙ single.saved new'.sessions ∙ sym k'.4 in
      (ap Some world, same.0, state)

  one_steps : (old : State Application) (e e' : Entry Saved) (new new' : State Application) → given_of e ≡ given_of e'
      → Steps m old e new → Steps n old e' new' → (e ≡ e') × (new ≡ new')
  one_steps old e e' new new' given s s' =
      let event : e'.event ≡ e.event = sym (ap (λ (g : Given). g.event) given) in
      let report : e'.report ≡ e.report = sym (ap (λ (g : Given). g.report) given) in
      let acted = one_acts e.event old s.own s'.own s.acted s'.acted s.acts (subst (λ (v : Event). Acts n v old s'.own s'.acted) event s'.acts) in
      let reported = one_reports e.event e.report s.acted s.finished s'.finished s.reported s'.reported s.reports
      (subst (λ (x : State Application). Reports n e.event e.report x s'.finished s'.reported) (sym acted.1)
      (subst (λ (r : Option Report). Reports n e.event r s'.acted s'.finished s'.reported) report
      (subst (λ (v : Event). Reports n v e'.report s'.acted s'.finished s'.reported) event s'.reports))) in
      let marks = one_marks e.mark e'.mark s.reported s.started s'.started new new' s.marks
      (subst (λ (x : State Application). Marks n e'.mark x s'.started new') (sym reported.1) s'.marks) in
      let out : then_out s.own (then_out s.finished s.started) ≡ then_out s'.own (then_out s'.finished s'.started) =
      λ i. then_out (acted.0 i) (then_out (reported.0 i) (marks.1 i)) in
      (entry_is e e' given marks.0 (s.out ∙ out ∙ sym s'.out), marks.2)

  one_takes : (old : State Application) (e e' : Entry Saved) (new new' : State Application) → given_of e ≡ given_of e'
      → Takes m old e new → Takes n old e' new' → (e ≡ e') × (new ≡ new')
  one_takes old e e' new new' given takes takes' =
      alike (is_passed_over m old e.event) (is_passed_over n old e'.event) (ap (λ (g : Given). is_passed_over m old g.event) given) takes.takes takes'.takes
    where
      alike : (b b' : Bool) → b ≡ b' → MatchBool b (Passes m old e new) (Steps m old e new) → MatchBool b' (Passes n old e' new') (Steps n old e' new')
          → (e ≡ e') × (new ≡ new')
      alike true true same p p' = (entry_is e e' given (p.mark ∙ sym p'.mark) (p.out ∙ sym p'.out), p.same ∙ sym p'.same)
      alike false false same s s' = one_steps old e e' new new' given s s'
      alike true false same p s = absurd (cc (same))
      alike false true same s p = absurd (cc (same))

  runs_alike : (entries entries' : List (Entry Saved)) (start end end' : State Application) → Run m start entries end → Run n start entries' end'
      → map given_of entries ≡ map given_of entries' → (entries ≡ entries') × (end ≡ end')
  runs_alike [] [] start end end' run run' given = (refl, run ∙ sym run')
  runs_alike [] (e ∷ es) start end end' run run' given = absurd (cc (given))
  runs_alike (e ∷ es) [] start end end' run run' given = absurd (cc (given))
  runs_alike (e ∷ es) (e' ∷ es') start end end' run run' given =
      let first : given_of e ≡ given_of e' = cc (given) in
      let others : map given_of es ≡ map given_of es' = cc (given) in
      let taken = one_takes start e e' run.0 run'.0 first run.1 run'.1 in
      let rest = runs_alike es es' run.0 end end' run.2 (subst (λ (s : State Application). Run n s es' end') (sym taken.1) run'.2) others in
      ((λ i. taken.0 i ∷ rest.0 i), rest.1)

  -- the state after a start, by the interval
  abbrev begun : ℕ → ℕ → Told → Application → State Application
  begun moment interval told sessions = begun_at moment (told.asks || told.shuts) (if told.shuts then Closing else Running) interval sessions

  begins_alike : (saved : Saved) (moment : ℕ) (out out' : Output) (start start' : State Application)
      → Begins m saved moment out start → Begins n saved moment out' start' → (out ≡ out') × (start ≡ start')
  begins_alike saved moment out out' start start' b b' =
      let same = single.starts saved moment b.told b'.told b.sessions b'.sessions b.starts b'.starts in
      let moved : begun moment (m.interval b.sessions) b.told b.sessions ≡ begun moment (m.interval b'.sessions) b'.told b'.sessions =
      λ i. begun moment (m.interval (same.1 i)) (same.0 i) (same.1 i) in
      let timed : begun moment (m.interval b'.sessions) b'.told b'.sessions ≡ begun moment (n.interval b'.sessions) b'.told b'.sessions =
      λ i. begun moment (single.interval b'.sessions i) b'.told b'.sessions in
      (b.out_is ∙ ap (λ (t : Told). t.out) same.0 ∙ sym b'.out_is, b.state_is ∙ moved ∙ timed ∙ sym b'.state_is)

  pub one_run_of : OneRun m n
  one_run_of saved moment out out' start start' end end' entries entries' begins begins' run run' given =
      let first = begins_alike saved moment out out' start start' begins begins' in
      let rest = runs_alike entries entries' start end end' run (subst (λ (s : State Application). Run n s entries' end') (sym first.1) run') given in
      (first.0, first.1, rest.0, rest.1)

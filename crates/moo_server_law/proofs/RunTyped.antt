-- In a run a connection holds the rest of all its bytes since its opening.
use Rattle.std.proofs.Common.{◌≡◌, ◌≢◌, ℕ, ◌==◌, List, [], ◌∷◌, ◌++◌, append_assoc, append-nil, Option, Some, None, Bool, true, false, cond, refl, sym, ◌∙◌, ap, subst}
use Rattle.std.specs.Prelude.{MatchBool}
use Rattle.std.proofs.lemmas.Bool.{eqb-true, eq-eqb, true≢false}
use Rattle.moo_dbtext_read.specs.Saved.{Saved}
use Rattle.moo_builtin.specs.Telling.{Faults}
use Rattle.moo_session_line.specs.Lines.{lines, rest}
use Rattle.moo_session_connection.specs.Connections.{client_here}
use Rattle.moo_session_connection.specs.Changes.{joined}
use Rattle.moo_session_connection.proofs.Numbers.{nobody_here}
use Rattle.moo_session_task.specs.declared.world_state.WorldState.{WorldState}
use Rattle.moo_session_task.specs.Session.{in_connections}
use Rattle.moo_session_task.specs.State.{in_session}
use Rattle.moo_session.specs.Events as event
use Rattle.moo_session.specs.Events.{Hears as HearsBytes, OpensConnection}
use Rattle.moo_server_core.specs.Application.{Input, Opens, Receives, HangsUp, Starts, Finishes, Output}
use Rattle.moo_server_core.specs.Seen.{Event, Open, Bytes, Hangup, Moment, Flush}
use Rattle.moo_server_core.specs.Traces.{Report}
use Rattle.moo_server_core.specs.declared.event.Course.{Course}
use Rattle.moo_server_core.specs.declared.event.Course.TheVariants.{Running, Closing, Closed}
use Rattle.moo_server_core.specs.Meaning.{Acts, Entry, FindsFree, Hears, Marks, Passes, Reports, Run, State, Steps, Takes, is_done, is_passed_over}
use Rattle.moo_server_core.proofs.Idle.{finds_free}
use Rattle.moo_server.specs.Live.{Becomes, live_meaning, settled}
use Rattle.moo_server_law.specs.Stream.{HappensBeside, opens, hears, hangs_up, checkpoint_starts, checkpoint_ends, piece_of, stream_of, StaysOpen, LinesOfTheRun}
use Rattle.moo_server_law.proofs.Carried.{hooks_keep, login_keeps, lines_keep}
use Rattle.moo_server_law.proofs.Kept.{IsLone, Keeps, lone_is_carried, lone_of_none, lone_reader, joins_itself}
use Rattle.moo_server_law.proofs.Typed.{beside_keeps, own_heard, read_on}

abbrev Holds : ℕ → List ℕ → State WorldState → Type 0
Holds n stream s = Keeps n (rest stream) s.sessions.session

-- a server that is running was running before
running_before : (shuts : Bool) (c : Course) → cond shuts Closing c ≡ Running → c ≡ Running
running_before true c e = absurd cc
running_before false c e = e

running_unless_closed : (last : Bool) (c : Course) → cond last Closed c ≡ Running → c ≡ Running
running_unless_closed true c e = absurd cc
running_unless_closed false c e = e

abbrev Runs : State WorldState → Type 0
Runs s = s.course ≡ Running

hears_runs : (happening : Input) (old : State WorldState) (out : Output) (new : State WorldState) → Hears (live_meaning Faults) happening old out new → Runs new → Runs old
hears_runs happening old out new d r = running_before d.0.shuts old.course (ap (λ (s : State WorldState). s.course) (sym d.4) ∙ r)

acts_runs : (e : Event) (old : State WorldState) (out : Output) (new : State WorldState) → Acts (live_meaning Faults) e old out new → Runs new → Runs old
acts_runs (Open c) old out new d r = hears_runs (Opens c) old out new d r
acts_runs (Bytes c piece) old out new d r = hears_runs (Receives c piece) old out new d r
acts_runs (Hangup c) old out new d r = hears_runs (HangsUp c) old out new d r
acts_runs (Moment moment) old out new d r = ap (λ (s : State WorldState). s.course) (sym d.1) ∙ r
acts_runs Flush old out new d r = ap (λ (s : State WorldState). s.course) (sym d.1) ∙ r

reports_runs : (e : Event) (report : Option Report) (old : State WorldState) (out : Output) (new : State WorldState) → Reports (live_meaning Faults) e report old out new → Runs new → Runs old
reports_runs e None old out new d r = ap (λ (s : State WorldState). s.course) (sym d.1) ∙ r
reports_runs e (Some report) old out new d r =
    hears_runs (Finishes (is_done report)) (record old { writing = None }) out d.3 d.4 (running_unless_closed d.1 d.3.course (ap (λ (s : State WorldState). s.course) (sym d.5) ∙ r))

marks_runs : (mark : Option Saved) (old : State WorldState) (out : Output) (new : State WorldState) → Marks (live_meaning Faults) mark old out new → Runs new → Runs old
marks_runs None old out new d r = ap (λ (s : State WorldState). s.course) (sym d.2) ∙ r
marks_runs (Some saved) old out new d r = hears_runs Starts old out d.1 d.2 (ap (λ (s : State WorldState). s.course) (sym d.3) ∙ r)

steps_run : (old : State WorldState) (entry : Entry Saved) (new : State WorldState) → Steps (live_meaning Faults) old entry new → Runs new → Runs old
steps_run old entry new d r =
    acts_runs entry.event old d.own d.acted d.acts (reports_runs entry.event entry.report d.acted d.finished d.reported d.reports (marks_runs entry.mark d.reported d.started new d.marks r))

taken_runs : (b : Bool) (old : State WorldState) (entry : Entry Saved) (new : State WorldState)
    → MatchBool b (Passes (live_meaning Faults) old entry new) (Steps (live_meaning Faults) old entry new) → Runs new → Runs old
taken_runs true old entry new d r = ap (λ (s : State WorldState). s.course) (sym d.same) ∙ r
taken_runs false old entry new d r = steps_run old entry new d r

run_runs : (entries : List (Entry Saved)) (old new : State WorldState) → Run (live_meaning Faults) old entries new → Runs new → Runs old
run_runs [] old new d r = ap (λ (s : State WorldState). s.course) (sym d) ∙ r
run_runs (entry ∷ entries) old new d r = taken_runs (is_passed_over (live_meaning Faults) old entry.event) old entry d.0 d.1.takes (run_runs entries d.0 new d.2 r)

-- while a server runs it passes nothing over
counts : (old : State WorldState) (e : Event) → Runs old → is_passed_over (live_meaning Faults) old e ≡ false
counts old e r = ap (λ (k : Course). is_passed_over (live_meaning Faults) (record old { course = k }) e) r

-- what happens besides
hears_beside : (n : ℕ) (stream : List ℕ) (happening : Input) (old : State WorldState) (out : Output) (new : State WorldState)
    → ((end : WorldState) → Becomes Faults happening old.moment (settled old.sessions) end → HappensBeside Faults n (settled old.sessions) end)
    → Hears (live_meaning Faults) happening old out new → Holds n stream old → Holds n stream new
hears_beside n stream happening old out new besides d h =
    let kept : Keeps n (rest stream) d.2.end.session = beside_keeps Faults n (rest stream) (settled old.sessions) d.2.end (besides d.2.end d.2.becomes) h in
    subst (Holds n stream) (sym d.4) (subst (λ (s : WorldState). Keeps n (rest stream) s.session) (sym d.2.new_is) kept)

-- its own bytes
own_bytes : (n moment : ℕ) (stream piece : List ℕ) (old end : WorldState) → HearsBytes Faults moment n piece old end → Keeps n (rest stream) old.session → Keeps n (rest (stream ++ piece)) end.session
own_bytes n moment stream piece old end (event.dropped e) h = lone_of_none n (rest (stream ++ piece)) old.session.connections.clients e
own_bytes n moment stream piece old end (event.heard {lines = more} {after = after} x d) h =
    lines_keep Faults (IsLone n (rest (stream ++ piece))) (lone_is_carried n (rest (stream ++ piece))) n moment d (own_heard n moment stream piece old.session.connections more after h x).1

hears_own : (n : ℕ) (stream piece : List ℕ) (old : State WorldState) (out : Output) (new : State WorldState) → Hears (live_meaning Faults) (Receives n piece) old out new → Holds n stream old → Holds n (stream ++ piece) new
hears_own n stream piece old out new d h =
    subst (Holds n (stream ++ piece)) (sym d.4)
    (subst (λ (s : WorldState). Keeps n (rest (stream ++ piece)) s.session) (sym d.2.new_is) (own_bytes n old.moment stream piece (settled old.sessions) d.2.end d.2.becomes h))

bytes_held : (b : Bool) (n c : ℕ) (stream piece : List ℕ) (old : State WorldState) (out : Output) (new : State WorldState) → (c == n) ≡ b → Hears (live_meaning Faults) (Receives c piece) old out new →
    Holds n stream old → Holds n (stream ++ cond b piece []) new
bytes_held true n c stream piece old out new e d h =
    hears_own n stream piece old out new (subst (λ (k : ℕ). Hears (live_meaning Faults) (Receives k piece) old out new) (eqb-true c n e) d) h
bytes_held false n c stream piece old out new e d h =
    subst (λ (xs : List ℕ). Holds n xs new) (sym (append-nil stream))
    (hears_beside n stream (Receives c piece) old out new (λ end becomes. hears (λ same. true≢false (sym (eq-eqb c n same) ∙ e)) becomes) d h)

same_stream : (n : ℕ) (stream : List ℕ) (s : State WorldState) → Holds n stream s → Holds n (stream ++ []) s
same_stream n stream s h = subst (λ (xs : List ℕ). Holds n xs s) (sym (append-nil stream)) h

acts_hold : (n : ℕ) (stream : List ℕ) (e : Event) (old : State WorldState) (out : Output) (new : State WorldState) → e ≢ Open n → e ≢ Hangup n → Acts (live_meaning Faults) e old out new →
    Holds n stream old → Holds n (stream ++ piece_of n e) new
acts_hold n stream (Open c) old out new apart stays d h =
    same_stream n stream new (hears_beside n stream (Opens c) old out new (λ end becomes. opens (λ same. apart (ap (λ (k : ℕ). Open k) same)) becomes) d h)
acts_hold n stream (Bytes c piece) old out new apart stays d h = bytes_held (c == n) n c stream piece old out new refl d h
acts_hold n stream (Hangup c) old out new apart stays d h =
    same_stream n stream new (hears_beside n stream (HangsUp c) old out new (λ end becomes. hangs_up (λ same. stays (ap (λ (k : ℕ). Hangup k) same)) becomes) d h)
acts_hold n stream (Moment moment) old out new apart stays d h = same_stream n stream new (subst (Holds n stream) (sym d.1) h)
acts_hold n stream Flush old out new apart stays d h = same_stream n stream new (subst (Holds n stream) (sym d.1) h)

reports_hold : (n : ℕ) (stream : List ℕ) (e : Event) (report : Option Report) (old : State WorldState) (out : Output) (new : State WorldState) → Reports (live_meaning Faults) e report old out new →
    Holds n stream old → Holds n stream new
reports_hold n stream e None old out new d h = subst (Holds n stream) (sym d.1) h
reports_hold n stream e (Some report) old out new d h =
    subst (Holds n stream) (sym d.5)
    (hears_beside n stream (Finishes (is_done report)) (record old { writing = None }) out d.3 (λ end becomes. checkpoint_ends (is_done report) becomes) d.4 h)

marks_hold : (n : ℕ) (stream : List ℕ) (mark : Option Saved) (old : State WorldState) (out : Output) (new : State WorldState) → Marks (live_meaning Faults) mark old out new → Holds n stream old → Holds n stream new
marks_hold n stream None old out new d h = subst (Holds n stream) (sym d.2) h
marks_hold n stream (Some saved) old out new d h =
    subst (Holds n stream) (sym d.3) (hears_beside n stream Starts old out d.1 (λ end becomes. checkpoint_starts becomes) d.2 h)

after_acts : (n : ℕ) (stream : List ℕ) (old : State WorldState) (entry : Entry Saved) (new : State WorldState) → (d : Steps (live_meaning Faults) old entry new) → Holds n stream d.acted → Holds n stream new
after_acts n stream old entry new d h =
    marks_hold n stream entry.mark d.reported d.started new d.marks (reports_hold n stream entry.event entry.report d.acted d.finished d.reported d.reports h)

taken_steps : (old : State WorldState) (entry : Entry Saved) (new : State WorldState) → Runs new → Takes (live_meaning Faults) old entry new → Steps (live_meaning Faults) old entry new
taken_steps old entry new r takes =
    let before : Runs old = taken_runs (is_passed_over (live_meaning Faults) old entry.event) old entry new takes.takes r in
    subst (λ (b : Bool). MatchBool b (Passes (live_meaning Faults) old entry new) (Steps (live_meaning Faults) old entry new)) (counts old entry.event before) takes.takes

run_holds : (n : ℕ) (stream : List ℕ) (entries : List (Entry Saved)) (old new : State WorldState) → Run (live_meaning Faults) old entries new → StaysOpen n entries → Runs new →
    Holds n stream old → Holds n (stream ++ stream_of n entries) new
run_holds n stream [] old new d stays r h = same_stream n stream new (subst (Holds n stream) (sym d) h)
run_holds n stream (entry ∷ entries) old new d stays r h =
    let steps = taken_steps old entry d.0 (run_runs entries d.0 new d.2 r) d.1 in
    let piece : List ℕ = piece_of n entry.event in
    let mid : Holds n (stream ++ piece) d.0 =
    after_acts n (stream ++ piece) old entry d.0 steps (acts_hold n stream entry.event old steps.own steps.acted stays.0 stays.1 steps.acts h) in
    subst (λ (xs : List ℕ). Holds n xs new) (append_assoc stream piece (stream_of n entries)) (run_holds n (stream ++ piece) entries d.0 new d.2 stays.2 r mid)

-- its opening
opening_holds : (n moment : ℕ) (old end : WorldState) → client_here n old.session.connections ≡ None → OpensConnection Faults moment n old end → Keeps n (rest []) end.session
opening_holds n moment old end none d =
    hooks_keep Faults (IsLone n (rest [])) (lone_is_carried n (rest [])) moment d.hooks
    (login_keeps Faults (IsLone n (rest [])) (lone_is_carried n (rest [])) n moment [] [] (in_session (in_connections (joined n moment)) old) d.greeted d.logs_in (joins_itself n moment old.session.connections none))

opens_held : (n : ℕ) (e : Event) (old : State WorldState) (out : Output) (new : State WorldState) → e ≡ Open n → FindsFree (live_meaning Faults) old e → Acts (live_meaning Faults) e old out new → Holds n [] new
opens_held n e old out new is free d =
    let acts : Acts (live_meaning Faults) (Open n) old out new = subst (λ (x : Event). Acts (live_meaning Faults) x old out new) is d in
    let finds : FindsFree (live_meaning Faults) old (Open n) = subst (λ (x : Event). FindsFree (live_meaning Faults) old x) is free in
    let opened = opening_holds n old.moment (settled old.sessions) acts.2.end (nobody_here n old.sessions.session.connections finds) acts.2.becomes in
    subst (Holds n []) (sym acts.4) (subst (λ (s : WorldState). Keeps n (rest []) s.session) (sym acts.2.new_is) opened)

opening : (n : ℕ) (old : State WorldState) (entry : Entry Saved) (new : State WorldState) → entry.event ≡ Open n → Runs new → Takes (live_meaning Faults) old entry new → Holds n [] new
opening n old entry new is r takes =
    let steps = taken_steps old entry new r takes in
    let before : Runs old = steps_run old entry new steps r in
    after_acts n [] old entry new steps
    (opens_held n entry.event old steps.own steps.acted is (finds_free (live_meaning Faults) old entry.event takes.accepted (counts old entry.event before)) steps.acts)

pub lines_of_the_run : LinesOfTheRun
lines_of_the_run n old opened end first entries moment piece more after is takes run stays r x =
    let start : Holds n [] opened = opening n old first opened is (run_runs entries opened end run r) takes in
    let holds : Holds n (stream_of n entries) end = run_holds n [] entries opened end run stays r start in
    sym (read_on n (stream_of n entries) piece x.client.reader x.after more (lone_reader n (rest (stream_of n entries)) x.client holds x.is_here) x.reads).0

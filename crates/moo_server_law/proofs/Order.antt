-- The connections of a server stay in the order of their numbers.
use Rattle.std.proofs.Common.{◌≡◌, ℕ, ◌<◌, List, [], ◌∷◌, Option, Some, None, Bool, true, false, cond, refl, sym, ◌∙◌, ap, subst}
use Rattle.std.specs.Prelude.{MatchBool}
use Rattle.std.proofs.lemmas.Bool.{eqb-true, eq-eqb}
use Rattle.moo_dbtext_read.specs.Saved.{Saved}
use Rattle.moo_builtin.specs.Telling.{Faults}
use Rattle.moo_session_connection.specs.declared.client.Client.{Client}
use Rattle.moo_session_connection.specs.Clients.{number_of, has_number, newcomer, without_first, changed}
use Rattle.moo_session_connection.specs.Connections.{Connections, AreAbove, AreInOrder, no_connections}
use Rattle.moo_session_connection.specs.Changes.{joined, freed, with_heard}
use Rattle.moo_session_connection.proofs.Numbers.{nobody_here}
use Rattle.moo_session_connection.proofs.Rows.{order-insert}
use Rattle.moo_session_task.specs.declared.world_state.WorldState.{WorldState}
use Rattle.moo_session_task.specs.Session.{in_connections}
use Rattle.moo_session_task.specs.State.{in_session}
use Rattle.moo_session.specs.Events as event
use Rattle.moo_session.specs.Events.{Hears as HearsBytes, player_at}
use Rattle.moo_server_core.specs.Application.{Input, Opens, Receives, HangsUp, Starts, Finishes, IsApt, Output}
use Rattle.moo_server_core.specs.Seen.{Event, Open, Bytes, Hangup, Moment, Flush}
use Rattle.moo_server_core.specs.Traces.{Report}
use Rattle.moo_server_core.specs.Meaning.{Acts, Begins, Entry, FindsFree, Hears, Marks, Passes, Reports, Run, State, Steps, Takes, is_done, is_passed_over}
use Rattle.moo_server_core.proofs.Idle.{finds_free}
use Rattle.moo_server.specs.Live.{Becomes, live_meaning, settled}
use Rattle.moo_server_law.specs.Laws.{NumbersRise}
use Rattle.moo_server_law.proofs.Carried.{KeepsHeard, IsCarried, hooks_keep, login_keeps, lines_keep, own_hook_keeps, gone_keeps}
use Rattle.moo_server_law.proofs.Empty.{started_empty}

-- one goes
above_goes_at : (b : Bool) (n : ℕ) (test : Client → Bool) (c : Client) (cs : List Client) → AreAbove n (c ∷ cs) → AreAbove n (without_first test cs) → AreAbove n (cond b cs (c ∷ without_first test cs))
above_goes_at true n test c cs h ih = h.1
above_goes_at false n test c cs h ih = (h.0, ih)

above_goes : (n : ℕ) (test : Client → Bool) (cs : List Client) → AreAbove n cs → AreAbove n (without_first test cs)
above_goes n test [] h = tt
above_goes n test (c ∷ cs) h = above_goes_at (test c) n test c cs h (above_goes n test cs h.1)

order_goes_at : (b : Bool) (test : Client → Bool) (c : Client) (cs : List Client) → AreInOrder (c ∷ cs) → AreInOrder (without_first test cs) → AreInOrder (cond b cs (c ∷ without_first test cs))
order_goes_at true test c cs h ih = h.1
order_goes_at false test c cs h ih = (above_goes (number_of c) test cs h.0, ih)

order_goes : (test : Client → Bool) (cs : List Client) → AreInOrder cs → AreInOrder (without_first test cs)
order_goes test [] h = tt
order_goes test (c ∷ cs) h = order_goes_at (test c) test c cs h (order_goes test cs h.1)

-- one is changed, but not its number
above_changed_at : (b : Bool) (n : ℕ) (test : Client → Bool) (f : Client → Client) → ((c : Client) → number_of (f c) ≡ number_of c) → (c : Client) (cs : List Client) → AreAbove n (c ∷ cs) →
    AreAbove n (changed test f cs) → AreAbove n (cond b (f c ∷ cs) (c ∷ changed test f cs))
above_changed_at true n test f same c cs h ih = (subst (λ (m : ℕ). n < m) (sym (same c)) h.0, h.1)
above_changed_at false n test f same c cs h ih = (h.0, ih)

above_changed : (n : ℕ) (test : Client → Bool) (f : Client → Client) → ((c : Client) → number_of (f c) ≡ number_of c) → (cs : List Client) → AreAbove n cs → AreAbove n (changed test f cs)
above_changed n test f same [] h = tt
above_changed n test f same (c ∷ cs) h = above_changed_at (test c) n test f same c cs h (above_changed n test f same cs h.1)

order_changed_at : (b : Bool) (test : Client → Bool) (f : Client → Client) → ((c : Client) → number_of (f c) ≡ number_of c) → (c : Client) (cs : List Client) → AreInOrder (c ∷ cs) →
    AreInOrder (changed test f cs) → AreInOrder (cond b (f c ∷ cs) (c ∷ changed test f cs))
order_changed_at true test f same c cs h ih = (subst (λ (m : ℕ). AreAbove m cs) (sym (same c)) h.0, h.1)
order_changed_at false test f same c cs h ih = (above_changed (number_of c) test f same cs h.0, ih)

order_changed : (test : Client → Bool) (f : Client → Client) → ((c : Client) → number_of (f c) ≡ number_of c) → (cs : List Client) → AreInOrder cs → AreInOrder (changed test f cs)
order_changed test f same [] h = tt
order_changed test f same (c ∷ cs) h = order_changed_at (test c) test f same c cs h (order_changed test f same cs h.1)

same_number : (f : Client → Client) → KeepsHeard f → (c : Client) → number_of (f c) ≡ number_of c
same_number f k c = eqb-true (number_of (f c)) (number_of c) (k.number (number_of c) c ∙ eq-eqb (number_of c) (number_of c) refl)

-- whether the server is shutting down or not
abbrev pub IsInOrder : Bool → List Client → Type 0
IsInOrder closing cs = AreInOrder cs

pub order_is_carried : IsCarried IsInOrder
order_is_carried = record { goes = λ closing test cs h. order_goes test cs h; changes = λ closing test f k cs h. order_changed test f (same_number f k) cs h; none = tt }

-- an event of the sessions
abbrev pub Ordered : WorldState → Type 0
Ordered s = AreInOrder s.session.connections.clients

bytes_ordered : (moment c : ℕ) (piece : List ℕ) (old end : WorldState) → HearsBytes Faults moment c piece old end → Ordered old → Ordered end
bytes_ordered moment c piece old end (event.dropped e) h = h
bytes_ordered moment c piece old end (event.heard x d) h =
    lines_keep Faults IsInOrder order_is_carried c moment d
    (subst (λ (s : Connections). AreInOrder s.clients) x.leaves (order_changed (has_number c) (with_heard moment x.after) (λ k. refl) old.session.connections.clients h))

becomes_ordered : (happening : Input) (moment : ℕ) (old end : WorldState) → IsApt (live_meaning Faults) old happening → Becomes Faults happening moment old end → Ordered old → Ordered end
becomes_ordered (Opens c) moment old end free d h =
    hooks_keep Faults IsInOrder order_is_carried moment d.hooks
    (login_keeps Faults IsInOrder order_is_carried c moment [] [] (in_session (in_connections (joined c moment)) old) d.greeted d.logs_in
    (order-insert (newcomer c moment) old.session.connections.clients (nobody_here c old.session.connections free) h))
becomes_ordered (Receives c piece) moment old end apt d h = bytes_ordered moment c piece old end d h
becomes_ordered (HangsUp c) moment old end apt d h =
    hooks_keep Faults IsInOrder order_is_carried moment d
    (gone_keeps IsInOrder order_is_carried (player_at c old.session.connections) (in_connections (freed c) old.session) (order_goes (has_number c) old.session.connections.clients h))
becomes_ordered Starts moment old end apt d h = own_hook_keeps Faults IsInOrder order_is_carried moment _ _ old end d h
becomes_ordered (Finishes done) moment old end apt d h = own_hook_keeps Faults IsInOrder order_is_carried moment _ _ old end d h

-- an event of the server
abbrev pub IsOrdered : State WorldState → Type 0
IsOrdered s = Ordered s.sessions

hears_ordered : (happening : Input) (old : State WorldState) (out : Output) (new : State WorldState) → IsApt (live_meaning Faults) old.sessions happening
    → Hears (live_meaning Faults) happening old out new → IsOrdered old → IsOrdered new
hears_ordered happening old out new apt d h =
    let happens = d.2 in
    let sessions = subst Ordered (sym happens.new_is) (becomes_ordered happening old.moment (settled old.sessions) happens.end (apt_settled happening old.sessions apt) happens.becomes h) in
    subst IsOrdered (sym d.4) sessions
  where
    apt_settled : (happening : Input) (s : WorldState) → IsApt (live_meaning Faults) s happening → IsApt (live_meaning Faults) (settled s) happening
    apt_settled (Opens c) s apt = apt
    apt_settled (Receives c piece) s apt = tt
    apt_settled (HangsUp c) s apt = tt
    apt_settled Starts s apt = tt
    apt_settled (Finishes done) s apt = tt

acts_ordered : (e : Event) (old : State WorldState) (out : Output) (new : State WorldState) → FindsFree (live_meaning Faults) old e → Acts (live_meaning Faults) e old out new → IsOrdered old → IsOrdered new
acts_ordered (Open c) old out new free d h = hears_ordered (Opens c) old out new free d h
acts_ordered (Bytes c piece) old out new free d h = hears_ordered (Receives c piece) old out new tt d h
acts_ordered (Hangup c) old out new free d h = hears_ordered (HangsUp c) old out new tt d h
acts_ordered (Moment moment) old out new free d h = subst IsOrdered (sym d.1) h
acts_ordered Flush old out new free d h = subst IsOrdered (sym d.1) h

reports_ordered : (e : Event) (report : Option Report) (old : State WorldState) (out : Output) (new : State WorldState) → Reports (live_meaning Faults) e report old out new → IsOrdered old → IsOrdered new
reports_ordered e None old out new d h = subst IsOrdered (sym d.1) h
reports_ordered e (Some report) old out new d h =
    subst IsOrdered (sym d.5) (hears_ordered (Finishes (is_done report)) (record old { writing = None }) out d.3 tt d.4 h)

marks_ordered : (mark : Option Saved) (old : State WorldState) (out : Output) (new : State WorldState) → Marks (live_meaning Faults) mark old out new → IsOrdered old → IsOrdered new
marks_ordered None old out new d h = subst IsOrdered (sym d.2) h
marks_ordered (Some saved) old out new d h = subst IsOrdered (sym d.3) (hears_ordered Starts old out d.1 tt d.2 h)

taken_ordered : (b : Bool) (old : State WorldState) (entry : Entry Saved) (new : State WorldState) → (b ≡ false → FindsFree (live_meaning Faults) old entry.event)
    → MatchBool b (Passes (live_meaning Faults) old entry new) (Steps (live_meaning Faults) old entry new) → IsOrdered old → IsOrdered new
taken_ordered true old entry new free passes h = subst IsOrdered (sym passes.same) h
taken_ordered false old entry new free steps h =
    marks_ordered entry.mark steps.reported steps.started new steps.marks
    (reports_ordered entry.event entry.report steps.acted steps.finished steps.reported steps.reports (acts_ordered entry.event old steps.own steps.acted (free refl) steps.acts h))

pub takes_ordered : (old : State WorldState) (entry : Entry Saved) (new : State WorldState) → Takes (live_meaning Faults) old entry new → IsOrdered old → IsOrdered new
takes_ordered old entry new takes h =
    taken_ordered (is_passed_over (live_meaning Faults) old entry.event) old entry new (λ counts. finds_free (live_meaning Faults) old entry.event takes.accepted counts) takes.takes h

pub run_ordered : (entries : List (Entry Saved)) (old new : State WorldState) → Run (live_meaning Faults) old entries new → IsOrdered old → IsOrdered new
run_ordered [] old new same h = subst IsOrdered (sym same) h
run_ordered (entry ∷ entries) old new runs h = run_ordered entries runs.0 new runs.2 (takes_ordered old entry runs.0 runs.1 h)

pub begun_ordered : (saved : Saved) (moment : ℕ) (out : Output) (start : State WorldState) → Begins (live_meaning Faults) saved moment out start → IsOrdered start
begun_ordered saved moment out start begins =
    let none : start.sessions.session.connections ≡ no_connections =
    ap (λ (s : State WorldState). s.sessions.session.connections) begins.state_is ∙ ap (λ (s : WorldState). s.session.connections) begins.starts.new_is
    ∙ started_empty Faults moment saved.connected saved.world begins.starts.end begins.starts.starts in
    subst (λ (s : Connections). AreInOrder s.clients) (sym none) tt

-- what a mark names
marked : (mark : Option Saved) (saved : Saved) (old : State WorldState) (out : Output) (new : State WorldState) → mark ≡ Some saved → Marks (live_meaning Faults) mark old out new
    → saved ≡ (live_meaning Faults).saved_of new.sessions
marked None saved old out new e d = cc
marked (Some other) saved old out new e d = (let same : saved ≡ other = cc in same ∙ d.4)

mark_of : (b : Bool) (saved : Saved) (old : State WorldState) (entry : Entry Saved) (new : State WorldState) → entry.mark ≡ Some saved
    → MatchBool b (Passes (live_meaning Faults) old entry new) (Steps (live_meaning Faults) old entry new) → saved ≡ (live_meaning Faults).saved_of new.sessions
mark_of true saved old entry new e passes = (let none : entry.mark ≡ None = passes.mark in cc)
mark_of false saved old entry new e steps = marked entry.mark saved steps.reported steps.started new e steps.marks

pub numbers_rise : NumbersRise
numbers_rise saved moment out start old new entries entry mark begins runs takes e = (
  ap (λ (s : Saved). s.connected) (mark_of (is_passed_over (live_meaning Faults) old entry.event) mark old entry new e takes.takes),
  takes_ordered old entry new takes (run_ordered entries start old runs (begun_ordered saved moment out start begins)),
)

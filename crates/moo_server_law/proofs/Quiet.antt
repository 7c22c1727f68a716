-- While a server runs, its sessions aren't shutting down. A shutdown leaves no client.
use Rattle.std.proofs.Common.{◌≡◌, ℕ, List, [], Option, Some, None, Bool, true, false, cond, ◌&&◌, refl, sym, ◌∙◌, ap, subst}
use Rattle.std.specs.Prelude.{MatchBool, not}
use Rattle.moo_builtin.specs.Telling.{Telling, Faults}
use Rattle.moo_dbtext_read.specs.Saved.{Saved}
use Rattle.moo_session.specs.Events.{Hears as HearsBytes}
use Rattle.moo_session.specs.Events as event
use Rattle.moo_session_connection.specs.Clients.{without_first, changed}
use Rattle.moo_session_connection.specs.Connections.{client_here}
use Rattle.moo_session_connection.specs.declared.client.Client.{Client}
use Rattle.moo_session_task.specs.declared.world_state.WorldState.{WorldState}
use Rattle.moo_server_core.specs.Application.{Input, Opens, Receives, HangsUp, Starts, Finishes, Output}
use Rattle.moo_server_core.specs.Seen.{Event, Open, Bytes, Hangup, Moment, Flush}
use Rattle.moo_server_core.specs.Traces.{Report}
use Rattle.moo_server_core.specs.declared.event.Course.{Course}
use Rattle.moo_server_core.specs.declared.event.Course.TheVariants.{Running, Closing, Closed}
use Rattle.moo_server_core.specs.Meaning.{Acts, Begins, Entry, Hears, Marks, Passes, Reports, State, Steps, Takes, is_done, is_passed_over}
use Rattle.moo_server.specs.Live.{live_meaning}
use Rattle.moo_server_law.proofs.Carried.{IsCarried, lines_keep}

abbrev pub IsQuiet : State WorldState → Type 0
IsQuiet s = s.course ≡ Running → s.sessions.session.closing ≡ false

running_before : (shuts : Bool) (c : Course) → cond shuts Closing c ≡ Running → (shuts ≡ false) × (c ≡ Running)
running_before true c e = absurd cc
running_before false c e = (refl, e)

running_after : (last : Bool) (c : Course) → cond last Closed c ≡ Running → c ≡ Running
running_after true c e = absurd cc
running_after false c e = e

still_open : (now before : Bool) → (now && not before) ≡ false → before ≡ false → now ≡ false
still_open now true e f = absurd cc
still_open true false e f = absurd cc
still_open false false e f = refl

hears_quiet : (happening : Input) (old : State WorldState) (out : Output) (new : State WorldState) → Hears (live_meaning Faults) happening old out new → IsQuiet old → IsQuiet new
hears_quiet happening old out new d h e =
    let notified = d.0 in
    let happens = d.2 in
    let before = running_before notified.shuts old.course (sym (ap (λ (s : State WorldState). s.course) d.4) ∙ e) in
    let shuts : (happens.end.session.closing && not old.sessions.session.closing) ≡ false = sym (ap (λ t. t.shuts) happens.told_is) ∙ before.0 in
    ap (λ (s : State WorldState). s.sessions.session.closing) d.4 ∙ ap (λ (s : WorldState). s.session.closing) happens.new_is
    ∙ still_open happens.end.session.closing old.sessions.session.closing shuts (h before.1)

acts_quiet : (e : Event) (old : State WorldState) (out : Output) (new : State WorldState) → Acts (live_meaning Faults) e old out new → IsQuiet old → IsQuiet new
acts_quiet (Open c) old out new d h = hears_quiet (Opens c) old out new d h
acts_quiet (Bytes c piece) old out new d h = hears_quiet (Receives c piece) old out new d h
acts_quiet (Hangup c) old out new d h = hears_quiet (HangsUp c) old out new d h
acts_quiet (Moment moment) old out new d h = subst IsQuiet (sym d.1) h
acts_quiet Flush old out new d h = subst IsQuiet (sym d.1) h

reports_quiet : (e : Event) (report : Option Report) (old : State WorldState) (out : Output) (new : State WorldState) → Reports (live_meaning Faults) e report old out new → IsQuiet old → IsQuiet new
reports_quiet e None old out new d h = subst IsQuiet (sym d.1) h
reports_quiet e (Some report) old out new d h =
    let mid = d.3 in
    let quiet : IsQuiet mid = hears_quiet (Finishes (is_done report)) (record old { writing = None }) out mid d.4 h in
    subst IsQuiet (sym d.5) (λ r. quiet (running_after d.1 mid.course r))

marks_quiet : (mark : Option Saved) (old : State WorldState) (out : Output) (new : State WorldState) → Marks (live_meaning Faults) mark old out new → IsQuiet old → IsQuiet new
marks_quiet None old out new d h = subst IsQuiet (sym d.2) h
marks_quiet (Some saved) old out new d h = subst IsQuiet (sym d.3) (hears_quiet Starts old out d.1 d.2 h)

taken_quiet : (b : Bool) (old : State WorldState) (entry : Entry Saved) (new : State WorldState) → MatchBool b (Passes (live_meaning Faults) old entry new) (Steps (live_meaning Faults) old entry new) → IsQuiet old → IsQuiet new
taken_quiet true old entry new passes h = subst IsQuiet (sym passes.same) h
taken_quiet false old entry new steps h =
    marks_quiet entry.mark steps.reported steps.started new steps.marks
    (reports_quiet entry.event entry.report steps.acted steps.finished steps.reported steps.reports (acts_quiet entry.event old steps.own steps.acted steps.acts h))

pub takes_quiet : (old : State WorldState) (entry : Entry Saved) (new : State WorldState) → Takes (live_meaning Faults) old entry new → IsQuiet old → IsQuiet new
takes_quiet old entry new takes h = taken_quiet (is_passed_over (live_meaning Faults) old entry.event) old entry new takes.takes h

pub begun_quiet : (saved : Saved) (moment : ℕ) (out : Output) (start : State WorldState) → Begins (live_meaning Faults) saved moment out start → IsQuiet start
begun_quiet saved moment out start begins e =
    let starts = begins.starts in
    let before = running_before begins.told.shuts Running (sym (ap (λ (s : State WorldState). s.course) begins.state_is) ∙ e) in
    let shuts : (starts.end.session.closing && true) ≡ false = sym (ap (λ t. t.shuts) starts.told_is) ∙ before.0 in
    ap (λ (s : State WorldState). s.sessions.session.closing) begins.state_is ∙ ap (λ (s : WorldState). s.session.closing) starts.new_is
    ∙ still_open starts.end.session.closing false shuts refl

-- a shutdown leaves no client
abbrev IsEmptied : Bool → List Client → Type 0
IsEmptied closing cs = closing ≡ true → cs ≡ []

emptied_is_carried : IsCarried IsEmptied
emptied_is_carried = record {
  goes = λ closing test cs h e. ap (without_first test) (h e);
  changes = λ closing test f k cs h e. ap (changed test f) (h e);
  none = λ e. refl;
}

not_both : (b : Bool) → b ≡ false → b ≡ true → ⊥
not_both b e f = cc

pub nobody_left : (T : Telling) (n moment : ℕ) (piece : List ℕ) (s end : WorldState) → HearsBytes T moment n piece s end → s.session.closing ≡ false → end.session.closing ≡ true → (m : ℕ) → client_here m end.session.connections ≡ None
nobody_left T n moment piece s end (event.dropped e) open' shut m = absurd (not_both s.session.closing open' shut)
nobody_left T n moment piece s end (event.heard x d) open' shut m =
    let none : end.session.connections.clients ≡ [] = lines_keep T IsEmptied emptied_is_carried n moment d (λ e. absurd (not_both s.session.closing open' e)) shut in
    ap (λ (cs : List Client). client_here m (record end.session.connections { clients = cs })) none

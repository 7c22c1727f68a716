-- What is due begins at the end of an event.
use Rattle.std.proofs.Common.{◌≡◌, ◌⊎◌, inl, inr, ⊎_elim, ℕ, List, [], ◌∷◌, Option, Some, None, Bool, true, false, refl, sym, ◌∙◌, ap, subst}
use Rattle.std.specs.Prelude.{MatchBool, ◌+◌, ◌&&◌, ◌||◌, not, nat_le}
use Rattle.moo_dbtext_read.specs.Saved.{Saved}
use Rattle.moo_builtin.specs.Telling.{Faults}
use Rattle.moo_session_connection.specs.Connections.{Connections, is_open, no_connections}
use Rattle.moo_session_task.specs.declared.world_state.WorldState.{WorldState}
use Rattle.moo_server_core.specs.Application.{Output}
use Rattle.moo_server_core.specs.Courses.{is_closed}
use Rattle.moo_server_core.specs.Meaning.{Begins, Entry, Marks, Passes, Run, State, Steps, is_due, is_passed_over}
use Rattle.moo_server.specs.Live.{live_meaning}
use Rattle.moo_server_law.specs.Laws.{NothingIsDue}
use Rattle.moo_server_law.proofs.Empty.{started_empty}

-- nothing is due, or no connection is open
abbrev IsIdle : State WorldState → Type 0
IsIdle s = (is_due (live_meaning Faults) s ≡ false) ⊎ (s.sessions.session.connections ≡ no_connections)

not_while_open : (closed rest : Bool) → (not closed && false && rest) ≡ false
not_while_open true rest = refl
not_while_open false rest = refl

marked : (mark : Option Saved) (old : State WorldState) (out : Output) (new : State WorldState) → Marks (live_meaning Faults) mark old out new → is_due (live_meaning Faults) new ≡ false
marked None old out new k = ap (λ (s : State WorldState). is_due (live_meaning Faults) s) k.2 ∙ k.0
marked (Some saved) old out new k =
    ap (λ (s : State WorldState). is_due (live_meaning Faults) s) k.3
    ∙ not_while_open (is_closed k.1.course) (false || nat_le (k.1.moment + (live_meaning Faults).interval k.1.sessions) k.1.moment)

taken : (b : Bool) (old : State WorldState) (entry : Entry Saved) (new : State WorldState)
    → MatchBool b (Passes (live_meaning Faults) old entry new) (Steps (live_meaning Faults) old entry new) → IsIdle old → IsIdle new
taken true old entry new passes idle = subst IsIdle (sym passes.same) idle
taken false old entry new steps idle = inl (marked entry.mark steps.reported steps.started new steps.marks)

run : (entries : List (Entry Saved)) (old new : State WorldState) → Run (live_meaning Faults) old entries new → IsIdle old → IsIdle new
run [] old new same idle = subst IsIdle (sym same) idle
run (entry ∷ entries) old new runs idle =
    let takes = runs.1 in
    run entries runs.0 new runs.2 (taken (is_passed_over (live_meaning Faults) old entry.event) old entry runs.0 takes.takes idle)

begun : (saved : Saved) (moment : ℕ) (out : Output) (start : State WorldState) → Begins (live_meaning Faults) saved moment out start → IsIdle start
begun saved moment out start begins =
    let starts = begins.starts in
    inr (ap (λ (s : State WorldState). s.sessions.session.connections) begins.state_is ∙ ap (λ (s : WorldState). s.session.connections) starts.new_is
    ∙ started_empty Faults moment saved.connected saved.world starts.end starts.starts)

pub nothing_is_due : NothingIsDue
nothing_is_due saved moment out start end entries c begins runs is_here =
    ⊎_elim (λ idle. idle)
    (λ empty. let closed : is_open c end.sessions.session.connections ≡ false = ap (λ (s : Connections). is_open c s) empty in absurd (cc (is_here, closed)))
    (run entries start end runs (begun saved moment out start begins))

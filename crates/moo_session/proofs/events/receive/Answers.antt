use Rattle.std.proofs.Common.{ℕ, List, ◌∙◌, ap, refl, subst}
use Rattle.std.specs.Prelude.{OnOk}
use Rattle.moo_builtin.specs.Telling.{Faults}
use Rattle.moo_session_connection.specs.Connections.{Connections}
use Rattle.moo_session_task.specs.Session.{Session, in_connections}
use Rattle.moo_session_task.specs.State.{state}
use Rattle.moo_session.specs.Input.{MeetsLines}
use Rattle.moo_session.proofs.Steps.{lines_met, nobody_held, nobody_heard, somebody_heard, not_refused}
use Rattle.moo_session.proofs.events.receive.Goals as goal

pub returns-in_default-clause-heard : goal.returns-in_default-clause-heard
returns-in_default-clause-heard c =
    let nobody = rw c.in_default.is at c.in_ok-lines.ensures.nobody in
    let lent = c.connections_mut-connections in
    nobody_heard c.args.moment c.args.number c.args.piece.now c.args.live.now lent.result.now c.receive.new.self lent.ensures.value nobody.0 nobody.1

pub returns-in_default-clause-left : goal.returns-in_default-clause-left
returns-in_default-clause-left c = λ e.
    let s : Session = c.args.live.now.session in
    let nobody = rw c.in_default.is at c.in_ok-lines.ensures.nobody in
    (refl, ap (λ (x : Connections). state c.args.live.now.world (in_connections (λ _. x) s)) (nobody.1 ∙ c.connections_mut-connections.ensures.value))

pub returns-in_err-lines-clause-left : goal.returns-in_err-lines-clause-left
returns-in_err-lines-clause-left c = λ e.
    let lent = c.connections_mut-connections in
    absurd (not_refused c.receive.result c.in_err-lines.field-0.0 (c.receive.ensures.left (nobody_held c.args.number c.args.live.now.session lent.result.now lent.ensures.value e)) c.in_err-lines.was)

pub returns-clause-heard : goal.returns-clause-heard
returns-clause-heard c =
    let s : Session = c.args.live.now.session in
    let lent = c.connections_mut-connections in
    lines_met c.meet_lines.result c.args.moment c.args.number c.args.piece.now c.args.live.now lent.result.now c.receive.new.self c.in-Some.lines.items c.meet_lines.new.live
    lent.ensures.value (rw c.in-Some.is at c.in_ok-lines.ensures.heard)
    (subst (λ (ls : List (List ℕ)). OnOk c.meet_lines.result (MeetsLines Faults c.args.moment c.args.number ls (state c.args.live.now.world (in_connections (λ _. c.receive.new.self) s)) c.meet_lines.new.live)) c.deref.ensures.value c.meet_lines.ensures)

pub returns-clause-left : goal.returns-clause-left
returns-clause-left c = λ e.
    let lent = c.connections_mut-connections in
    absurd (
    somebody_heard c.args.moment c.args.number c.args.piece.now lent.result.now c.receive.new.self c.in-Some.lines.items (rw c.in-Some.is at c.in_ok-lines.ensures.heard)
    (nobody_held c.args.number c.args.live.now.session lent.result.now lent.ensures.value e)
    )

use Rattle.std.proofs.Common.{◌≡◌, Bool, refl, subst}
use Rattle.std.specs.Prelude.{◌&&◌, IfOk, not}
use Rattle.moo_session_task.specs.declared.world_state.WorldState.{WorldState}
use Rattle.moo_builtin.specs.Telling.{Faults}
use Rattle.moo_server_core.specs.declared.application.Requests.{Requests}
use Rattle.moo_server_core.specs.Application.{seen_happening}
use Rattle.moo_server.specs.Live.{Becomes}
use Rattle.moo_server.proofs.Worlds.{dropped, moved}
use Rattle.moo_server.proofs.moo_application.MooApplicationApplication.apply.Goals as goal

pub returns-then-is_dropped-clause-happens : goal.returns-then-is_dropped-clause-happens
returns-then-is_dropped-clause-happens c =
    dropped (seen_happening c.args.happening) c.args.moment c.args.self.now (record c.args.self.now { live = c.discard_leftovers.new.live }) (c.is_dropped.ensures.nothing c.if-is_dropped.true c.args.moment) c.discard_leftovers.ensures refl

pub returns-clause-happens : goal.returns-clause-happens
returns-clause-happens c =
    let old = c.args.self.now in
    let end = c.apply.new.live in
    let new = record old { live = c.move_out.new.live; outbox = c.move_out.new.outbox } in
    moved c.move_out.result (seen_happening c.args.happening) c.args.moment old new end
    (subst (λ (s : WorldState). Becomes Faults (seen_happening c.args.happening) c.args.moment s end) c.discard_leftovers-2.ensures c.in_ok-apply.ensures)
    c.move_out.ensures.live c.move_out.ensures.checkpoint
    (subst (λ (b : Bool). IfOk c.move_out.result (λ (asked : Requests). asked.shutdown ≡ (end.session.closing && not b))) c.is_closing-was_closing.ensures c.move_out.ensures.shutdown)
    c.move_out.ensures.sent c.move_out.ensures.log

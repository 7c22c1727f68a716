use Rattle.std.proofs.Common.{ℤ, List, ◌∙◌, ap, subst}
use Rattle.moo_builtin.specs.Telling.{Faults}
use Rattle.moo_session.specs.Events.{Starts as StartsFrom}
use Rattle.std.specs.Prelude.{◌++◌}
use Rattle.moo_session_connection.specs.Streams.{stream}
use Rattle.moo_session_connection.specs.Outbox.{Outbox, log_under_way, log_waiting, sent_under_way, sent_waiting}
use Rattle.moo_dbtext_read.specs.Saved.{saved_of}
use Rattle.moo_server.specs.declared.moo_application.MooApplication.{MooApplication}
use Rattle.moo_server.proofs.Worlds.{started_of}
use Rattle.moo_server.proofs.moo_application.MooApplicationStartApplication.start.Goals as goal

pub returns : goal.returns
returns c =
    let end = c.in_ok-live.live in
    let e = c.move_out.ensures in
    let asked = c.in_ok-asked.ensures in
    let world : MooApplication = record { alloc = c.args.alloc; live = c.move_out.new.live; outbox = c.move_out.new.outbox } in
    record {
      starts = started_of (saved_of c.args.saved) c.args.moment world end c.in_ok-asked.asked
          (subst (λ (players : List ℤ). StartsFrom Faults c.args.moment players c.args.saved.world end) c.deref.ensures.value c.in_ok-live.ensures)
          e.live asked.checkpoint asked.shutdown
          (λ k. e.waiting k ∙ ap (λ (o : Outbox). sent_waiting o k) c.new-outbox.ensures)
          (e.log_waiting ∙ ap log_waiting c.new-outbox.ensures)
          (λ k. asked.sent k ∙ ap (λ (o : Outbox). sent_under_way o k ++ stream k end.session.sent) c.new-outbox.ensures)
          (asked.log ∙ ap (λ (o : Outbox). log_under_way o ++ end.session.log) c.new-outbox.ensures);
    }

use Rattle.std.proofs.Common.{refl}
use Rattle.moo_server_core.proofs.Heard.{hears_of, not_err, ok_is, same_due}
use Rattle.moo_server_core.proofs.server_core.ServerCore.apply.Goals as goal

pub returns-clause-hears : goal.returns-clause-hears
returns-clause-hears g c =
    let e = c.note_requests.ensures in
    hears_of g.S.Application.layer _ c.args.self.now c.note_requests.new.self c.apply.new.self c.in_ok-asked.asked c.in_ok-asked.ensures.happens
    e.sessions e.asked e.course e.moment e.due e.writing

pub returns-clause-dropped : goal.returns-clause-dropped
returns-clause-dropped g c = λ dropped.
    let e = c.note_requests.ensures in (
      refl,
      same_due g.S.Application.layer c.args.self.now c.note_requests.new.self c.in_ok-asked.asked (ok_is (c.in_ok-asked.ensures.dropped dropped))
          e.asked e.course e.moment e.due e.writing,
    )

pub returns-in_err-asked-clause-dropped : goal.returns-in_err-asked-clause-dropped
returns-in_err-asked-clause-dropped g c = λ dropped. absurd (not_err (c.in_err-asked.ensures.dropped dropped))

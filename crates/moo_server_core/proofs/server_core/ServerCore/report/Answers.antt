use Rattle.moo_server_core.specs.Server.{state_of}
use Rattle.moo_server_core.proofs.Heard.{closes, stays}
use Rattle.moo_server_core.proofs.server_core.ServerCore.report.Goals as goal

pub returns-then-is_last-clause-reports : goal.returns-then-is_last-clause-reports
returns-then-is_last-clause-reports g c =
    let h = c.in_ok-apply.ensures.hears in
    let mid = state_of g.S.Application.layer c.apply.new.self in
    (h.0, mid, h.1, closes mid c.args.is_last c.if-is_last.true, h.2)

pub returns-else-is_last-clause-reports : goal.returns-else-is_last-clause-reports
returns-else-is_last-clause-reports g c =
    let h = c.in_ok-apply.ensures.hears in
    let mid = state_of g.S.Application.layer c.apply.new.self in
    (h.0, mid, h.1, stays mid c.args.is_last c.if-is_last.false, h.2)

use Rattle.moo_cli_serve.proofs.Idling.{idle_of}
use Rattle.moo_cli_serve.proofs.leaving.due.Goals as goal

pub returns-clause-rest : goal.returns-clause-rest
returns-clause-rest g c k small none =
    idle_of g.S.Application.layer c.args.is_settled c.args.late.now c.args.server.now c.take_writable-writable.new.self.sockets k
    c.in_ok-pending.pending.items c.take_writable-writable.result.items c.in_ok-others.others.items c.in_ok-due.due.items
    c.in_ok-due.ensures (λ there. none (c.sort_numbers.ensures.kept k there)) (c.in_ok-pending.ensures.all k) (λ off. c.in_ok-others.ensures off k small)

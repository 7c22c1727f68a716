use Rattle.moo_cli_sockets.proofs.Keeping.{tends_on}
use Rattle.moo_cli_sockets.proofs.socket.Socket.tend.Goals as goal

pub returns-clause-tends : goal.returns-clause-tends
returns-clause-tends c =
    tends_on c.args.now c.args.self.now c.notice_end.new.self c.in-Some.channel c.tend.new.self c.in-Some.is c.notice_end.ensures.same.2 c.in_ok-tend.ensures.tends

use Rattle.moo_cli_sockets.proofs.Sent.{sends}
use Rattle.moo_cli_sockets.proofs.sockets.Sockets.write_once.Goals as goal

pub returns-clause-sent : goal.returns-clause-sent
returns-clause-sent c =
    sends c.args.c c.from.result c.args.output.items c.args.self.now.sockets c.in-Some.socket.now c.give.new.self c.write.new.self c.in-Ok._count c.waiting-waiting.result
    c.from.ensures c.in-Some.ensures.value c.in_ok-give.ensures.ok c.in-Ok.ensures.out c.waiting-waiting.ensures

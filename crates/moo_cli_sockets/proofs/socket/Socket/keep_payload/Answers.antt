use Rattle.moo_cli_sockets.proofs.Keeping.{hears_on}
use Rattle.moo_cli_sockets.proofs.socket.Socket.keep_payload.Goals as goal

pub returns-clause-hears : goal.returns-clause-hears
returns-clause-hears c =
    hears_on c.args.bytes.now c.args.self.now c.notice_end.new.self c.in-Some.channel c.receive_payload.new.channel c.in_ok-self.field-0 c.in-Some.is
    c.notice_end.ensures.same.2 c.notice_end.ensures.same.0 c.in_ok-self.ensures

use Rattle.std.proofs.Common.{arith}
use Rattle.moo_cli_web_listener.proofs.Calling.{makes_room}
use Rattle.moo_cli_web_listener.proofs.listener.WebListener.make_room.Goals as goal

pub returns-in-Some-clause-room : goal.returns-in-Some-clause-room
returns-in-Some-clause-room c are =
    makes_room c.args.self.now.allowed c.args.self.now.callers c.try_remove.new.self (c.in-Some.field-0-0, c.in-Some.key) c.try_remove.result are
    (omega (arith, c.len.ensures, c.if-len-lt-CALLERS_MOST.false)) c.in-Some.ensures.first c.try_remove.ensures.value c.try_remove.ensures.updates c.try_remove.ensures.len

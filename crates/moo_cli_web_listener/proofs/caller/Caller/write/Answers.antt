use Rattle.moo_cli_web_listener.proofs.Calling.{linger_keeps, rest_keeps}
use Rattle.moo_cli_web_listener.proofs.caller.Caller.write.Goals as goal

pub returns-in-Ok-2-clause-keeps : goal.returns-in-Ok-2-clause-keeps
returns-in-Ok-2-clause-keeps c allowed is =
    rest_keeps allowed c.args.self.now.input.items c.args.self.now.stage c.args.rest c.skip_front.result _ c.requires c.skip_front.ensures is

pub returns-in-Ok-clause-keeps : goal.returns-in-Ok-clause-keeps
returns-in-Ok-clause-keeps c allowed is = linger_keeps allowed _ _ c.args.rest c.args.now c.requires c.linger.ensures is

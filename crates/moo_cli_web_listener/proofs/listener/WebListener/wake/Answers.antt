use Rattle.moo_cli_web_listener.proofs.Calling.{woken_callers}
use Rattle.moo_cli_web_listener.proofs.listener.WebListener.wake.Goals as goal

pub returns-in-Some-get_mut-clause-callers : goal.returns-in-Some-get_mut-clause-callers
returns-in-Some-get_mut-clause-callers c are =
    woken_callers c.args.self.now.allowed c.args.self.now.callers c.in-Some.key c.in-Some-get_mut.caller.now c.wake.new.self c.in-Some-get_mut.ensures.value c.wake.ensures are

use Rattle.moo_cli_web_listener.proofs.Calling.{written_callers}
use Rattle.moo_cli_web_listener.proofs.listener.WebListener.step.Goals as goal

pub returns-in_err-progress-clause-callers : goal.returns-in_err-progress-clause-callers
returns-in_err-progress-clause-callers c are =
    written_callers c.args.self.now.allowed c.args.self.now.callers c.args.key c.in-Some.caller.now c.step.new.self c.in-Some.ensures.value c.step.ensures.keeps are

pub returns-else-eq-clause-callers : goal.returns-else-eq-clause-callers
returns-else-eq-clause-callers c are =
    written_callers c.args.self.now.allowed c.args.self.now.callers c.args.key c.in-Some.caller.now c.step.new.self c.in-Some.ensures.value c.step.ensures.keeps are

use Rattle.std.proofs.Common.{List, ℕ, subst}
use Rattle.moo_cli_web_listener.specs.Callers.{IsAt}
use Rattle.moo_cli_web_listener.proofs.caller.Caller.read.Goals as goal

pub returns-clause-keeps : goal.returns-clause-keeps
returns-clause-keeps c is =
    subst (λ (bytes : List ℕ). IsAt c.args.allowed.now bytes c.begin_answer-self.result) c.deref.ensures.value
    (c.begin_answer-self.ensures.answers c.args.allowed.now c.deref.result.now c.read_request.ensures.asks)

pub returns-clause-lingers : goal.returns-clause-lingers
returns-clause-lingers c = c.begin_answer-self.ensures.lingers

pub returns-clause-timely : goal.returns-clause-timely
returns-clause-timely c = c.begin_answer-self.ensures.timely

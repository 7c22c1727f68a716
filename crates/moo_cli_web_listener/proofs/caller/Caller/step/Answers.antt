use Rattle.std.proofs.Common.{subst, sym}
use Rattle.moo_cli_web_listener.specs.Callers.{Lingers}
use Rattle.moo_cli_web_listener.specs.declared.caller.Stage.{Stage}
use Rattle.moo_cli_web_listener.proofs.caller.Caller.step.Goals as goal

pub returns-in-Reading-clause-lingers : goal.returns-in-Reading-clause-lingers
returns-in-Reading-clause-lingers c = subst (λ (s : Stage). Lingers c.args.now s c.read.new.self.stage) (sym c.in-Reading.is) (c.read.ensures.lingers c.args.now)

pub returns-in-Writing-clause-keeps : goal.returns-in-Writing-clause-keeps
returns-in-Writing-clause-keeps c is = c.write.ensures.keeps c.args.allowed.now is

pub returns-in-Lingering-clause-keeps : goal.returns-in-Lingering-clause-keeps
returns-in-Lingering-clause-keeps c is = c.drop_input.ensures.keeps c.args.allowed.now is

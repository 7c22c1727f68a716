use Rattle.std.proofs.Common.{sym}
use Rattle.moo_value.specs.View.{trees}
use Rattle.moo_builtin.specs.Telling.{Faults}
use Rattle.moo_builtin.proofs.Joined.{function_called}
use Rattle.moo_builtin.proofs.call.called.Goals as goal

pub returns-clause-call : goal.returns-clause-call
returns-clause-call c = λ name named. function_called Faults name c.args.function (trees c.args.args.now) c.args.world.now c.unless_refused.new.world c.args.caller c.refusal-refused.result c.unless_refused.result named (sym c.refusal-refused.ensures) c.unless_refused.ensures.call

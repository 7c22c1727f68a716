use Rattle.std.proofs.Common.{◌∙◌}
use Rattle.moo_value.specs.View.{trees}
use Rattle.moo_builtin.specs.Telling.{Faults}
use Rattle.moo_builtin.proofs.Joined.{unknown_called}
use Rattle.moo_builtin.proofs.call.call_found.Goals as goal

pub returns-in_default-clause-call : goal.returns-in_default-clause-call
returns-in_default-clause-call c = λ name named. unknown_called Faults name (trees c.args.args.now) c.args.world.now c.args.caller c.raised.result (named ∙ c.in_default.is) c.raised.ensures

use Rattle.std.proofs.Common.{sym, refl, ◌∙◌}
use Rattle.moo_value.specs.View.{trees}
use Rattle.moo_builtin.specs.Telling.{Faults}
use Rattle.moo_builtin.specs.Calls.{refused}
use Rattle.moo_builtin.proofs.Joined.{answer_called}
use Rattle.moo_builtin.proofs.plain.try_plain.Goals as goal

pub returns-in-Some-clause-some : goal.returns-in-Some-clause-some
returns-in-Some-clause-some c = λ name named. (refused named (sym c.refusal.ensures ∙ c.in-Some.is), refl)

pub returns-in-None-clause-some : goal.returns-in-None-clause-some
returns-in-None-clause-some c = answer_called Faults c.args.function (trees c.args.args.now) c.args.world.now c.try_fitting.new.world c.args.caller c.try_fitting.result (sym c.refusal.ensures ∙ c.in-None.is) c.try_fitting.ensures.some

use Rattle.std.proofs.Common.{◌∙◌}
use Rattle.moo_world_table.proofs.NewNames.{name_copied}
use Rattle.moo_world_table.proofs.renaming.names_along.Goals as goal

pub loop-step-preserved : goal.loop-step-preserved
loop-step-preserved c = c.in_ok-push.ensures.items ∙ name_copied c.args.name.now _ c.loop-step.names.items c.args.walk.now c.loop-step._step-index c.loop-step-test.true c.loop-step.invariant c.in_ok-try_clone.ensures

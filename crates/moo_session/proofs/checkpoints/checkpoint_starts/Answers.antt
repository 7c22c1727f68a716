use Rattle.std.proofs.Common.{[]}
use Rattle.std.specs.Prelude.{codes}
use Rattle.moo_session.proofs.Steps.{called_with}
use Rattle.moo_session.proofs.checkpoints.checkpoint_starts.Goals as goal

pub returns : goal.returns
returns c = called_with c.call_own_hook.result c.args.moment (codes "checkpoint_started") c.in_ok-args.args [] c.args.live.now c.call_own_hook.new.live c.in_ok-args.ensures c.call_own_hook.ensures

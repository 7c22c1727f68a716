use Rattle.moo_value.specs.View.{tree}
use Rattle.moo_eval_hook.specs.SeenByHooks.{calling_of}
use Rattle.moo_eval_hook.proofs.Turning.{fewer_after}
use Rattle.moo_eval_hook.proofs.stages.resume_call.Goals as goal

pub returns-clause-fewer : goal.returns-clause-fewer
returns-clause-fewer c = fewer_after (calling_of c.args.stack.now c.args.active.now) c.args.world.now c.next_progress.new.world c.args.stage (tree c.args.answer) c.next_progress.result c.is_well_formed.ensures.places.forest c.next_progress.ensures

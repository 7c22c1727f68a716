use Rattle.std.proofs.Common.{refl}
use Rattle.moo_eval_hook.proofs.hook.through.Goals as goal

pub returns : goal.returns
returns c = λ f rest e. rw (c.through.ensures f rest e) refl

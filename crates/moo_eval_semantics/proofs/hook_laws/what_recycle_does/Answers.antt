use Rattle.moo_builtin.specs.Telling.{Faults}
use Rattle.moo_eval_semantics.proofs.HookRecycling.{what_recycles}
use Rattle.moo_eval_semantics.proofs.hook_laws.what_recycle_does.Goals as goal

pub returns : goal.returns
returns k = λ c o p s s' s'' r b d. what_recycles Faults c o b d

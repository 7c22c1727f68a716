use Rattle.moo_builtin.specs.Telling.{Faults}
use Rattle.moo_eval_semantics.proofs.Moving.{what_moves}
use Rattle.moo_eval_semantics.proofs.hook_laws.what_move_does.Goals as goal

pub returns : goal.returns
returns k = λ c what to p s s' s'' r b d. what_moves Faults c what to b d

use Rattle.moo_builtin.specs.Telling.{chosen_by}
use Rattle.moo_eval_semantics.proofs.CallUnique.{chosen_once, one_call}
use Rattle.moo_eval_call.proofs.laws.at_most_one_result.Goals as goal

pub returns : goal.returns
returns c = λ choice passes x name args s s' t r q h k. one_call (chosen_by choice) (chosen_once choice passes) x name args s s' t r q h k

use Rattle.moo_builtin.specs.Telling.{chosen_by}
use Rattle.moo_eval_semantics.proofs.CallUnique.{chosen_once}
use Rattle.moo_eval_semantics.proofs.Agreed.{alike}
use Rattle.moo_eval_semantics.proofs.Unique.{one_result, one_block}
use Rattle.moo_eval_semantics.proofs.UniqueTask.{one_end}
use Rattle.moo_eval_semantics.proofs.laws.at_most_one_result.Goals as goal

pub returns-clause-expressions : goal.returns-clause-expressions
returns-clause-expressions c = λ choice passes x e s s' t o p d d'. one_result (chosen_by choice) (chosen_by choice) (alike (chosen_by choice) (chosen_once choice passes)) d d'

pub returns-clause-statements : goal.returns-clause-statements
returns-clause-statements c = λ choice passes x b s s' t o p d d'. one_block (chosen_by choice) (chosen_by choice) (alike (chosen_by choice) (chosen_once choice passes)) d d'

pub returns-clause-tasks : goal.returns-clause-tasks
returns-clause-tasks c = λ choice passes around start before after instead end other notices others d d'. one_end (chosen_by choice) (chosen_by choice) (alike (chosen_by choice) (chosen_once choice passes)) d d'

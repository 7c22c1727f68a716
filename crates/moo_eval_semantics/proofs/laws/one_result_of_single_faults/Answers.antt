use Rattle.moo_builtin.specs.Telling.{Faults}
use Rattle.moo_eval_semantics.specs.Laws.{faults_of}
use Rattle.moo_eval_semantics.proofs.Unique.{one_result, one_block}
use Rattle.moo_eval_semantics.proofs.UniqueTask.{one_end}
use Rattle.moo_eval_semantics.proofs.Choices.{one_fault_told}
use Rattle.moo_eval_semantics.proofs.laws.one_result_of_single_faults.Goals as goal

pub returns-clause-expressions : goal.returns-clause-expressions
returns-clause-expressions k = λ texts have c e s s' t o p d d'. one_result (faults_of texts) Faults (one_fault_told texts have) d d'

pub returns-clause-statements : goal.returns-clause-statements
returns-clause-statements k = λ texts have c b s s' t o p d d'. one_block (faults_of texts) Faults (one_fault_told texts have) d d'

pub returns-clause-tasks : goal.returns-clause-tasks
returns-clause-tasks k = λ texts have around start before after instead end other notices others d d'. one_end (faults_of texts) Faults (one_fault_told texts have) d d'

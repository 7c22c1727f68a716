use Rattle.moo_eval_semantics.specs.Laws.{faults_of}
use Rattle.moo_builtin.specs.Telling.{Faults}
use Rattle.moo_server_law.proofs.Agreeing.{by_single_faults}
use Rattle.moo_server_law.proofs.Unique.{one_result}
use Rattle.moo_server_law.proofs.laws.sessions.one_result_of_single_faults.Goals as goal

pub returns : goal.returns
returns c = λ texts have. one_result (faults_of texts) Faults (by_single_faults c.one_command.ensures c.one_result_of_single_faults.ensures.tasks texts have)

use Rattle.moo_builtin.specs.Telling.{Faults}
use Rattle.moo_eval_semantics.specs.Laws.{faults_of}
use Rattle.moo_server_law.proofs.Layer.{one_run_of_sessions}
use Rattle.moo_server_law.proofs.laws.runs.one_run_of_single_faults.Goals as goal

pub returns : goal.returns
returns c = λ texts have. one_run_of_sessions (faults_of texts) Faults (c.one_result_of_single_faults.ensures texts have)

use Rattle.moo_builtin.specs.Telling.{Faults, chosen_by}
use Rattle.moo_server_law.proofs.Within.{runs_within}
use Rattle.moo_server_law.proofs.laws.runs.a_chosen_run_may_be.Goals as goal

pub returns : goal.returns
returns c = λ choice faults. runs_within (chosen_by choice) Faults (c.chosen_faults_may_be_told.ensures choice faults)

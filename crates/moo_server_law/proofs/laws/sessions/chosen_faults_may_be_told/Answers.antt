use Rattle.moo_builtin.specs.Telling.{Faults, chosen_by}
use Rattle.moo_server_law.proofs.Agreeing.{within}
use Rattle.moo_server_law.proofs.Unique.{all_within}
use Rattle.moo_server_law.proofs.laws.sessions.chosen_faults_may_be_told.Goals as goal

pub returns : goal.returns
returns c = λ choice faults. all_within (chosen_by choice) Faults (within c.chosen_faults_may_be_told.ensures.tasks choice faults)

use Rattle.moo_builtin.specs.Telling.{chosen_by}
use Rattle.moo_server_law.proofs.Layer.{one_run_of_sessions}
use Rattle.moo_server_law.proofs.laws.runs.one_run.Goals as goal

pub returns : goal.returns
returns c = λ choice passes. one_run_of_sessions (chosen_by choice) (chosen_by choice) (c.at_most_one_result.ensures choice passes)

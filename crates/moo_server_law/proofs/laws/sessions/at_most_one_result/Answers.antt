use Rattle.moo_server_law.proofs.Agreeing.{by_choice}
use Rattle.moo_server_law.proofs.Unique.{one_result}
use Rattle.moo_builtin.specs.Telling.{chosen_by}
use Rattle.moo_server_law.proofs.laws.sessions.at_most_one_result.Goals as goal

pub returns : goal.returns
returns c = λ choice passes. one_result (chosen_by choice) (chosen_by choice) (by_choice c.one_command.ensures c.at_most_one_result.ensures.tasks choice passes)

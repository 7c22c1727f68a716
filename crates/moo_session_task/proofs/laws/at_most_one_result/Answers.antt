use Rattle.moo_session_task.proofs.Unique.{every_call, every_run_of_hooks}
use Rattle.moo_session_task.proofs.laws.at_most_one_result.Goals as goal

pub returns-clause-calls : goal.returns-clause-calls
returns-clause-calls c = every_call c.at_most_one_result.ensures.tasks

pub returns-clause-hooks : goal.returns-clause-hooks
returns-clause-hooks c = every_run_of_hooks c.at_most_one_result.ensures.tasks

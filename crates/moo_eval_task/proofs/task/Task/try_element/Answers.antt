use Rattle.moo_eval_task.proofs.task.Task.try_element.Goals as goal

pub returns-in-Variable-clause-some : goal.returns-in-Variable-clause-some
returns-in-Variable-clause-some c = rw c.in-Variable.is c.try_variable_element.ensures.some

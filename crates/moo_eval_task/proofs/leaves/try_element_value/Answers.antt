use Rattle.moo_eval_task.proofs.leaves.try_element_value.Goals as goal

pub returns-in-Variable-clause-value : goal.returns-in-Variable-clause-value
returns-in-Variable-clause-value c = rw c.in-Variable.is c.element_of.ensures.value

use Rattle.moo_eval_task.proofs.task.Task.try_assign.Goals as goal

pub returns-in-Index-clause-assigned : goal.returns-in-Index-clause-assigned
returns-in-Index-clause-assigned c =
    rw (c.in-Index.is, ← c.deref.ensures, ← c.deref-in-Index.ensures) c.try_set_element.ensures.assigned

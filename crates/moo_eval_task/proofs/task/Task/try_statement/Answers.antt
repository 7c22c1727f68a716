use Rattle.moo_eval_task.proofs.task.Task.try_statement.Goals as goal

pub returns-in-Set-clause-done : goal.returns-in-Set-clause-done
returns-in-Set-clause-done c = λ t w k. rw (c.in-Set.is, ← c.deref.ensures) (c.try_assign.ensures.assigned t w k)

pub returns-in-Extend-clause-done : goal.returns-in-Extend-clause-done
returns-in-Extend-clause-done c = λ t w k. rw (c.in-Extend.is, ← c.deref-in-Extend.ensures) (c.try_add.ensures.added t w k)

pub returns-in-Put-clause-done : goal.returns-in-Put-clause-done
returns-in-Put-clause-done c = λ t w k. rw (c.in-Put.is, ← c.deref-in-Put.ensures, ← c.deref-in-Put-2.ensures) (c.try_put.ensures.put t w k)

use Rattle.moo_eval_task.proofs.task.Task.try_comparison.Goals as goal

pub returns-in-Arithmetic-clause-some : goal.returns-in-Arithmetic-clause-some
returns-in-Arithmetic-clause-some c =
    rw (c.in-Arithmetic.is, ← c.deref.ensures, ← c.deref-in-Arithmetic.ensures) c.try_operator.ensures.some

use Rattle.moo_eval_task.proofs.task.Task.try_test.Goals as goal

pub returns-in-Arithmetic-clause-some : goal.returns-in-Arithmetic-clause-some
returns-in-Arithmetic-clause-some c =
    rw (c.in-Arithmetic.is, ← c.deref.ensures, ← c.deref-in-Arithmetic.ensures) c.try_arithmetic.ensures.some

pub returns-in-Variable-clause-some : goal.returns-in-Variable-clause-some
returns-in-Variable-clause-some c = rw c.in-Variable.is c.try_variable_test.ensures.some

pub returns-in-Binary-clause-some : goal.returns-in-Binary-clause-some
returns-in-Binary-clause-some c =
    rw (c.in-Binary.is, ← c.deref-in-Binary.ensures, ← c.deref-in-Binary-2.ensures) c.try_operator.ensures.some

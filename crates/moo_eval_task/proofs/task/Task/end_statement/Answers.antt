use Rattle.std.proofs.lemmas.Result.{err_from_is_err_and}
use Rattle.moo_eval_task.proofs.Direct.{performed}
use Rattle.moo_eval_task.proofs.Placed.{passed_over, stopped}
use Rattle.moo_eval_task.proofs.task.Task.end_statement.Goals as goal

pub returns-in-Ok : goal.returns-in-Ok
returns-in-Ok c = λ w e s z ok err k. performed z (rw c.in-Ok.is at ok).1

pub returns-in_ok-_error-in-Err : goal.returns-in_ok-_error-in-Err
returns-in_ok-_error-in-Err c = λ w e s z ok err k.
    passed_over z (rw c.in-Err.is at err (c.in_ok-_error-in-Err.ensures.known tt)) (c.in_ok-_error-in-Err.ensures.outcome tt)

pub returns-in_err-_error-in-Err : goal.returns-in_err-_error-in-Err
returns-in_err-_error-in-Err c =
    let p = err_from_is_err_and c.from_residual.result c.from_residual.ensures.1 in
    rw (p.1, p.2) (λ w e s z ok err k. stopped z (rw c.in-Err.is at err (c.in_err-_error-in-Err.ensures.known k)) (c.in_err-_error-in-Err.ensures.outcome k))

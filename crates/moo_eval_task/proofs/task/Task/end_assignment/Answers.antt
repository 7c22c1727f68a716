use Rattle.std.proofs.Common.{sym, refl}
use Rattle.std.proofs.lemmas.Result.{err_from_is_err_and}
use Rattle.moo_eval_task.proofs.Exits.{same_state}
use Rattle.moo_eval_task.proofs.Lengthened.{set_longer, set_error, not_set}
use Rattle.moo_eval_task.proofs.task.Task.end_assignment.Goals as goal

pub returns-in-Ok : goal.returns-in-Ok
returns-in-Ok c = λ w e s z z' ok err k. set_longer z z' (rw c.in-Ok.is at ok)

pub returns-in_ok-set-in-Err : goal.returns-in_ok-set-in-Err
returns-in_ok-set-in-Err c = λ w e s z z' ok err k.
    set_error z z' (rw c.in-Err.is at err (c.in_ok-value-in-Err.ensures.known tt)) (c.in_ok-value-in-Err.ensures.outcome tt) (same_state (sym c.in_ok-set-in-Err.ensures) refl)

pub returns-in_err-value-in-Err : goal.returns-in_err-value-in-Err
returns-in_err-value-in-Err c =
    let p = err_from_is_err_and c.from_residual.result c.from_residual.ensures.1 in
    rw (p.1, p.2) (λ w e s z z' ok err k. not_set z z' (rw c.in-Err.is at err (c.in_err-value-in-Err.ensures.known k)) (c.in_err-value-in-Err.ensures.outcome k))

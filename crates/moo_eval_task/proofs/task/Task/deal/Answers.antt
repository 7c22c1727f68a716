use Rattle.std.proofs.Common.{sym, ap}
use Rattle.std.proofs.lemmas.Result.{IfOk-weaker}
use Rattle.moo_eval_frame.specs.Outcome.{answers}
use Rattle.moo_eval_semantics.specs.Meaning.{scatter_fails, scatters}
use Rattle.moo_eval_access.proofs.Containers.{on_err}
use Rattle.moo_eval_task.proofs.Exits.{same_state}
use Rattle.moo_eval_task.proofs.task.Task.deal.Goals as goal

pub returns-clause-ok : goal.returns-clause-ok
returns-clause-ok c =
    IfOk-weaker c.deal.result _ _ (λ left h k w o s d. scatters (ap answers h.1) (same_state (sym h.2) (sym h.4)) (rw h.3 at d)) c.deal.ensures.ok

pub returns-clause-err : goal.returns-clause-err
returns-clause-err c =
    on_err c.deal.result c.deal.ensures.err (λ failure h m k w. let e = h m in rw (e.2, e.3) (scatter_fails (ap answers e.1)))

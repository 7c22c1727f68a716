use Rattle.std.proofs.lemmas.Result.{err_from_is_err_and}
use Rattle.moo_eval_semantics.specs.Meaning.{no_store, stores}
use Rattle.moo_eval_task.proofs.task.Task.store_literals.Goals as goal

pub returns : goal.returns
returns c = λ k s m. stores (c.in_ok-whole.ensures tt) (rw c.list.ensures at (c.deal.ensures k s m))

pub returns-in_err-whole : goal.returns-in_err-whole
returns-in_err-whole c =
    let p = err_from_is_err_and c.from_residual.result c.from_residual.ensures.1 in
    rw (p.1, p.2) (λ k s m. no_store (c.in_err-whole.ensures m))

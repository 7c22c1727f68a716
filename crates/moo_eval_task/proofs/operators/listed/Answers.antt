use Rattle.std.proofs.Common.{Ok, sym, ap, ◌∙◌}
use Rattle.std.proofs.lemmas.Result.{err_from_is_err_and}
use Rattle.moo_value.specs.Tree.{list_of}
use Rattle.moo_eval_frame.specs.Outcome.{answers}
use Rattle.moo_eval_task.proofs.operators.listed.Goals as goal

pub returns : goal.returns
returns c =
    λ k. ap answers c.in_ok-list.ensures.limits ∙ ap (λ ts. Ok (list_of ts)) (sym c.in_ok-list.ensures.ok)

pub returns-in_err-list : goal.returns-in_err-list
returns-in_err-list c =
    let p = err_from_is_err_and c.from_residual.result c.from_residual.ensures.1 in rw (p.1, p.2) (λ k. c.in_err-list.ensures.err k)

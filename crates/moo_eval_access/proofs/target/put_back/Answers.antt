use Rattle.std.proofs.Common.{sym, ap, ◌∙◌}
use Rattle.std.proofs.lemmas.Result.{err_from_is_err_and}
use Rattle.moo_value.specs.View.{tree}
use Rattle.moo_eval_frame.specs.Outcome.{answers}
use Rattle.moo_eval_access.proofs.Containers.{refused_inside}
use Rattle.moo_eval_access.proofs.target.put_back.Goals as goal

pub returns-in_err-whole : goal.returns-in_err-whole
returns-in_err-whole c =
    let p = err_from_is_err_and c.from_residual.result c.from_residual.ensures.1 in
    rw (p.1, p.2) (λ k. ap answers (sym c.loop-step.invariant) ∙ refused_inside _ c.pop.new.self.items c.loop-step.steps.items c.in-Some.step (tree c.loop-step.whole) c.in-Some.ensures.items c.in_err-whole.ensures k)

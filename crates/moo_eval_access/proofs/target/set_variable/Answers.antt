use Rattle.std.proofs.Common.{Ok, Err, vec_len, sym, ap, ◌∙◌}
use Rattle.std.proofs.lemmas.Result.{err_from_is_err_and}
use Rattle.moo_value.specs.View.{tree}
use Rattle.moo_eval_frame.specs.Outcome.{answers}
use Rattle.moo_eval_frame.specs.Seen.{failure_of}
use Rattle.moo_eval_access.proofs.Containers.{taken_first, inner_fails, all_give, on_ok, on_err}
use Rattle.moo_eval_access.proofs.target.set_variable.Goals as goal

pub returns-in_err-value-clause-err : goal.returns-in_err-value-clause-err
returns-in_err-value-clause-err c =
    let e = taken_first c.args.steps.items c.remove-outer.new.self.items c.remove-outer.result (vec_len c.args.steps) c.args.steps.ok.0 (sym c.is_empty.ensures ∙ c.if-is_empty.false) c.remove-outer.ensures.value c.remove-outer.ensures.items in
    let p = err_from_is_err_and c.from_residual-in_err-value.result c.from_residual-in_err-value.ensures.1 in
    rw (p.1, p.2) (λ k. inner_fails _ _ c.remove-outer.result (tree c.args.value) _ e (c.in_err-value.ensures k))

pub returns-clause-ok : goal.returns-clause-ok
returns-clause-ok c =
    let e = taken_first c.args.steps.items c.remove-outer.new.self.items c.remove-outer.result (vec_len c.args.steps) c.args.steps.ok.0 (sym c.is_empty.ensures ∙ c.if-is_empty.false) c.remove-outer.ensures.value c.remove-outer.ensures.items in
    on_ok c.set_part.result c.set_part.ensures.ok (λ h. (h.0, all_give _ _ c.remove-outer.result (tree c.args.value) (tree c.in_ok-value.value) (Ok h.0) e (c.in_ok-value.ensures tt) (ap answers h.1), h.2))

pub returns-clause-err : goal.returns-clause-err
returns-clause-err c =
    let e = taken_first c.args.steps.items c.remove-outer.new.self.items c.remove-outer.result (vec_len c.args.steps) c.args.steps.ok.0 (sym c.is_empty.ensures ∙ c.if-is_empty.false) c.remove-outer.ensures.value c.remove-outer.ensures.items in
    on_err c.set_part.result c.set_part.ensures.err (λ failure h k. all_give _ _ c.remove-outer.result (tree c.args.value) (tree c.in_ok-value.value) (Err (failure_of failure)) e (c.in_ok-value.ensures tt) (h k))

use Rattle.std.proofs.Common.{◌∙◌, ◌∷◌, [], sym, ap, pos}
use Rattle.std.proofs.lemmas.Result.{err_from_is_err_and}
use Rattle.moo_value.specs.Tree.{integer, string, list_of}
use Rattle.moo_syntax.specs.FaultText.{fault_text}
use Rattle.moo_builtin_operator.specs.Places.{made_list}
use Rattle.moo_eval_frame.specs.Outcome.{answers}
use Rattle.moo_eval_hook.proofs.Evaluated.{limited_is, untold, untold_of_text}
use Rattle.moo_eval_hook.proofs.evaluating.no_program.Goals as goal

pub returns-in_err-lines-clause-text : goal.returns-in_err-lines-clause-text
returns-in_err-lines-clause-text c =
    let p = err_from_is_err_and c.from_residual.result c.from_residual.ensures.1 in
    rw (p.1, p.2) (λ k. untold _ c.args.fault.now c.in_err-lines.ensures.text k)

pub returns-in_err-lines-clause-kind : goal.returns-in_err-lines-clause-kind
returns-in_err-lines-clause-kind c =
    let p = err_from_is_err_and c.from_residual.result c.from_residual.ensures.1 in
    rw (p.1, p.2) (λ k. untold_of_text _ c.args.fault.now c.in_err-lines.ensures.kind k)

pub returns-clause-text : goal.returns-clause-text
returns-clause-text c =
    λ k. ap (λ t. answers (made_list (integer (pos 0) ∷ t ∷ []))) (sym (limited_is (list_of (string (fault_text c.args.fault.now) ∷ [])) _ c.in_ok-lines.ensures.text)) ∙ c.flagged.ensures k

pub returns-clause-kind : goal.returns-clause-kind
returns-clause-kind c = λ k. c.in_ok-lines.ensures.kind tt

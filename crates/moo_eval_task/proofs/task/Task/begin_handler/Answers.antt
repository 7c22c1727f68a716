use Rattle.std.proofs.Common.{sym, ap, ◌∙◌}
use Rattle.std.specs.Option.{option_map}
use Rattle.std.proofs.lemmas.Result.{err_from_is_err_and}
use Rattle.moo_eval_control.specs.SeenHandling.{guarded_of}
use Rattle.moo_eval_semantics.specs.Meaning.{untaken, untold, takes}
use Rattle.moo_eval_task.proofs.Exits.{none_left, same_state}
use Rattle.moo_eval_task.proofs.task.Task.begin_handler.Goals as goal

pub returns-in_default-clause-err : goal.returns-in_default-clause-err
returns-in_default-clause-err c =
    λ k w. rw (sym (rw c.deref.ensures at c.chosen.ensures) ∙ ap (λ o. option_map (λ g. guarded_of g.now) o) (none_left _ c.in_default.not-Some)) untaken

pub returns-clause-ok : goal.returns-clause-ok
returns-clause-ok c =
    λ w o s d. rw (sym (rw c.deref.ensures at c.chosen.ensures) ∙ ap (option_map (λ g. guarded_of g.now)) c.in-Some.is) (let h = c.in_ok-set_caught.ensures.ok in takes h.1 (same_state (sym h.2) (sym c.in_ok-set_caught.ensures.programmer)) d)

pub returns-in_err-set_caught-clause-err : goal.returns-in_err-set_caught-clause-err
returns-in_err-set_caught-clause-err c =
    let p = err_from_is_err_and c.from_residual.result c.from_residual.ensures.1 in rw (p.1, p.2) (λ k w. rw (sym (rw c.deref.ensures at c.chosen.ensures) ∙ ap (option_map (λ g. guarded_of g.now)) c.in-Some.is) (let h = c.in_err-set_caught.ensures.err k in rw (h.2, c.in_err-set_caught.ensures.kept k) (untold h.1)))

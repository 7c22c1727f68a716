use Rattle.std.proofs.Common.{sym, ◌∙◌}
use Rattle.moo_eval_deferred.proofs.Refused.{none_left, refused_before, never_refused}
use Rattle.moo_eval_deferred.proofs.place.set_at.Goals as goal

pub returns-in-Some-clause-err : goal.returns-in-Some-clause-err
returns-in-Some-clause-err c = λ k. refused_before _ _ (sym c.in-Some.is ∙ c.index_refusal.ensures)

pub returns-clause-kept : goal.returns-clause-kept
returns-clause-kept c =
    never_refused _ c.replace_at.result _ (sym c.index_refusal.ensures ∙ none_left _ c.in_default.not-Some) c.replace_at.ensures.err

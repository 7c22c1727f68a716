use Rattle.std.proofs.Common.{ap, subst, sym, ◌∙◌, ◌<◌}
use Rattle.moo_value.specs.Size.{list_weight, weight_limit}
use Rattle.moo_value.specs.View.{trees}
use Rattle.moo_builtin_operator.specs.Places.{made_list}
use Rattle.moo_eval_frame.specs.Gathered.{in_a_row}
use Rattle.moo_eval_frame.specs.Outcome.{answers}
use Rattle.moo_eval_frame.proofs.Rows.{no_list}
use Rattle.moo_eval_frame.proofs.gathered.Gathered.into_list.Goals as goal

pub returns-then-are_too_heavy-clause-err : goal.returns-then-are_too_heavy-clause-err
returns-then-are_too_heavy-clause-err c =
    let heavy : weight_limit < list_weight (in_a_row c.self.inside.stretches.items) =
    subst (λ ss. weight_limit < list_weight (in_a_row ss)) c.deref.ensures.value (c.are_too_heavy.ensures c.if-are_too_heavy.true) in
    λ k. ap (λ ts. answers (made_list ts)) (sym c.self.view_is) ∙ no_list (in_a_row c.self.inside.stretches.items) (trees c.self.inside.last.items) heavy

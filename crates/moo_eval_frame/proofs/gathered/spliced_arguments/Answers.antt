use Rattle.std.proofs.Common.{subst, ◌<◌}
use Rattle.moo_value.specs.Size.{list_weight, weight_limit}
use Rattle.moo_value.specs.View.{trees}
use Rattle.moo_eval_frame.specs.Gathered.{in_a_row}
use Rattle.moo_eval_frame.proofs.Rows.{no_list}
use Rattle.moo_eval_frame.proofs.gathered.spliced_arguments.Goals as goal

pub returns-then-are_too_heavy-clause-err : goal.returns-then-are_too_heavy-clause-err
returns-then-are_too_heavy-clause-err c =
    let heavy : weight_limit < list_weight (in_a_row c.args.stretches.items) =
    subst (λ ss. weight_limit < list_weight (in_a_row ss)) c.deref.ensures.value (c.are_too_heavy.ensures c.if-are_too_heavy.true) in
    λ k. no_list (in_a_row c.args.stretches.items) (trees c.args.last.items) heavy

use Rattle.std.proofs.Common.{Ok, ap, ◌∙◌}
use Rattle.moo_builtin_operator.specs.Places.{spliced_of}
use Rattle.moo_value.specs.TreeCode.{trees_of-elements_of}
use Rattle.moo_value.specs.View.{tree}
use Rattle.moo_eval_frame.specs.Outcome.{answers}
use Rattle.moo_eval_frame.proofs.gathered.Gathered.splice.Goals as goal

pub returns-clause-ok : goal.returns-clause-ok
returns-clause-ok c =
    (c.in-List.list, ap (λ v. answers (spliced_of (tree v))) c.in-List.is ∙ ap Ok (trees_of-elements_of c.in-List.list), c.in_ok-push_list.ensures)

use Rattle.moo_builtin_operator.proofs.Lists.{length_limit, length-trees}
use Rattle.moo_builtin_operator.specs.Truth.{same_tree}
use Rattle.moo_value.specs.View.{tree}
use Rattle.moo_builtin_value.proofs.NewLists.{place_below, place_within, found_in}
use Rattle.moo_builtin_value.proofs.lists.place_of_same.Goals as goal

pub returns-clause-value : goal.returns-clause-value
returns-clause-value c = found_in (same_tree (tree c.args.value.now)) _ _ _ c.elements.ensures.value c.position_of_same.ensures.value

pub returns-clause-bound : goal.returns-clause-bound
returns-clause-bound c = place_within _ _ _ (length-trees _ _ c.elements.ensures.value) c.position_of_same.ensures.bound

pub returns-clause-limit : goal.returns-clause-limit
returns-clause-limit c = place_below _ _ _ (length_limit _ _ c.elements.ensures.value c.elements.ensures.limits) c.position_of_same.ensures.bound

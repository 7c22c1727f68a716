use Rattle.moo_builtin_operator.proofs.Lists.{length-trees}
use Rattle.moo_builtin_operator.specs.Truth.{equal}
use Rattle.moo_value.specs.View.{tree}
use Rattle.moo_builtin_value.proofs.NewLists.{place_within, found_in}
use Rattle.moo_builtin_value.proofs.lists.place_of_equal.Goals as goal

pub returns-clause-value : goal.returns-clause-value
returns-clause-value c = found_in (equal (tree c.args.value.now)) _ _ _ c.elements.ensures.value c.position_of_equal.ensures.value

pub returns-clause-bound : goal.returns-clause-bound
returns-clause-bound c = place_within _ _ _ (length-trees _ _ c.elements.ensures.value) c.position_of_equal.ensures.bound

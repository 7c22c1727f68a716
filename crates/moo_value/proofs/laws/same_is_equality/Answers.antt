use Rattle.moo_value.proofs.Views.{tree-injective}
use Rattle.moo_value.proofs.laws.same_is_equality.Goals as goal

pub returns : goal.returns
returns c = tree-injective

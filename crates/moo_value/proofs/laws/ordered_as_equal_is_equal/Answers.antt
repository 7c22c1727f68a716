use Rattle.moo_value.proofs.Ordered.{equal_where_ordered}
use Rattle.moo_value.proofs.laws.ordered_as_equal_is_equal.Goals as goal

pub returns : goal.returns
returns c = equal_where_ordered

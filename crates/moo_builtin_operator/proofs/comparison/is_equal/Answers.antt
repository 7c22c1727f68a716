use Rattle.moo_builtin_operator.proofs.Equality.{equal_is}
use Rattle.moo_builtin_operator.proofs.comparison.is_equal.Goals as goal

pub returns : goal.returns
returns c = equal_is _ _ c.equal.result c.equal.ensures

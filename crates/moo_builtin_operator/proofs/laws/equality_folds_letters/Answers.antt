use Rattle.moo_builtin_operator.proofs.Equality.{equal_decides}
use Rattle.moo_builtin_operator.proofs.laws.equality_folds_letters.Goals as goal

pub returns : goal.returns
returns c = equal_decides

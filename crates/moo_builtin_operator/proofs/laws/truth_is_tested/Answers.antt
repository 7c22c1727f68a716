use Rattle.moo_builtin_operator.proofs.Lawful.{truthy}
use Rattle.moo_builtin_operator.proofs.laws.truth_is_tested.Goals as goal

pub returns : goal.returns
returns c = truthy

use Rattle.moo_builtin_operator.proofs.Lawful.{division}
use Rattle.moo_builtin_operator.proofs.laws.division_truncates_towards_zero.Goals as goal

pub returns : goal.returns
returns c = division

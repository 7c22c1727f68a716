use Rattle.moo_builtin_operator.proofs.Lawful.{limited_within, limited_past}
use Rattle.moo_builtin_operator.proofs.laws.limits_are_tested.Goals as goal

pub returns : goal.returns
returns c = record { within = limited_within; past = limited_past }

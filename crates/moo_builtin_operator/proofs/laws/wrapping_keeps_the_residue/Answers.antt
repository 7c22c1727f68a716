use Rattle.moo_builtin_operator.proofs.Lawful.{wrapped_is}
use Rattle.moo_builtin_operator.proofs.laws.wrapping_keeps_the_residue.Goals as goal

pub returns : goal.returns
returns c = wrapped_is

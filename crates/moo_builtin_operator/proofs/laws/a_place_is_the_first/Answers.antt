use Rattle.moo_builtin_operator.proofs.Found.{first_place}
use Rattle.moo_builtin_operator.proofs.laws.a_place_is_the_first.Goals as goal

pub returns : goal.returns
returns c = first_place

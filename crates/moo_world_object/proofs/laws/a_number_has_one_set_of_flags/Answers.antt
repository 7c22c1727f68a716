use Rattle.moo_world_object.proofs.Numbers.{flags_number_apart}
use Rattle.moo_world_object.proofs.laws.a_number_has_one_set_of_flags.Goals as goal

pub returns : goal.returns
returns c = flags_number_apart c.args._one c.args._other

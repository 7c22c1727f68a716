use Rattle.moo_value.proofs.ReadAlike.{read_alike}
use Rattle.moo_value.proofs.laws.equal_values_read_alike.Goals as goal

pub returns : goal.returns
returns c = read_alike

use Rattle.moo_command.proofs.Splits.{one_split}
use Rattle.moo_command.proofs.laws.one_split.Goals as goal

pub returns : goal.returns
returns c = one_split

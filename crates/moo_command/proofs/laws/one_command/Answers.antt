use Rattle.moo_command.proofs.OneCommand.{one_command}
use Rattle.moo_command.proofs.laws.one_command.Goals as goal

pub returns : goal.returns
returns c = one_command c.one_typed.ensures

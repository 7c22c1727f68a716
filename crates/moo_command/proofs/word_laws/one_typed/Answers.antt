use Rattle.moo_command.proofs.OneReading.{one_typed}
use Rattle.moo_command.proofs.word_laws.one_typed.Goals as goal

pub returns : goal.returns
returns c = one_typed

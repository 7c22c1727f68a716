use Rattle.moo_command.proofs.OneReading.{one_reading}
use Rattle.moo_command.proofs.word_laws.one_reading.Goals as goal

pub returns : goal.returns
returns c = λ line ws vs first second. one_reading first second

use Rattle.moo_dbtext_object.proofs.ValueAgain.{value_again}
use Rattle.moo_dbtext_object.proofs.value_laws.written_values_are_read.Goals as goal

pub returns : goal.returns
returns c = λ s t rest h k. value_again s t h k rest

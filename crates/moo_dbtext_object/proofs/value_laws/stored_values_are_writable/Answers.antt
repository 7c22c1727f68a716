use Rattle.moo_dbtext_object.proofs.ValueAgain.{stored_writable}
use Rattle.moo_dbtext_object.proofs.value_laws.stored_values_are_writable.Goals as goal

pub returns : goal.returns
returns c = λ t h. stored_writable t h.0 h.1.weight

use Rattle.moo_dbtext_object.proofs.ValueFound.{one_value}
use Rattle.moo_dbtext_object.proofs.value_laws.lines_are_of_one_value.Goals as goal

pub returns : goal.returns
returns c = one_value

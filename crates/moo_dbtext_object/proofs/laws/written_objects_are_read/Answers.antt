use Rattle.moo_dbtext_object.proofs.ObjectAgain.{object_again}
use Rattle.moo_dbtext_object.proofs.laws.written_objects_are_read.Goals as goal

pub returns : goal.returns
returns c = λ s o note rest h k. object_again s o note h k rest

use Rattle.moo_dbtext_object.proofs.ObjectLines.{lines_found}
use Rattle.moo_dbtext_object.proofs.laws.read_objects_are_written.Goals as goal

pub returns : goal.returns
returns c = lines_found

use Rattle.moo_dbtext_restore.proofs.Same.{one_world}
use Rattle.moo_dbtext_restore.proofs.laws.records_say_one_world.Goals as goal

pub returns : goal.returns
returns c = λ r v w s t. one_world r v w s t

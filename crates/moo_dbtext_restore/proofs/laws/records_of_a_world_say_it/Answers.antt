use Rattle.moo_dbtext_restore.proofs.Writing.{says_itself}
use Rattle.moo_dbtext_restore.proofs.laws.records_of_a_world_say_it.Goals as goal

pub returns : goal.returns
returns c = λ w f. says_itself w f

use Rattle.moo_dbtext_read.proofs.Worlds.{spelled_within}
use Rattle.moo_dbtext_read.proofs.laws.saved_within_limits_is_saved.Goals as goal

pub returns : goal.returns
returns c = spelled_within

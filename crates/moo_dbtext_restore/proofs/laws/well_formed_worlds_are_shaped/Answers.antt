use Rattle.moo_dbtext_restore.proofs.Worlds.{shaped}
use Rattle.moo_dbtext_restore.proofs.laws.well_formed_worlds_are_shaped.Goals as goal

pub returns : goal.returns
returns c = shaped

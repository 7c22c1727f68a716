use Rattle.std.proofs.Common.{sym, subst}
use Rattle.moo_dbtext_read.specs.Taking.{HasTaken}
use Rattle.moo_dbtext_read.specs.declared.world_reader.WorldReader.{WorldReader}
use Rattle.moo_dbtext_read.proofs.db_reader.DbReader.feed.Goals as goal

pub returns-clause-refused : goal.returns-clause-refused
returns-clause-refused c = λ bytes h. c.feed.ensures.refused bytes (subst (λ (r : WorldReader). HasTaken r bytes) (sym c.self.view_is) h)

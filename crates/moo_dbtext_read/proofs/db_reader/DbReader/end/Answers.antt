use Rattle.std.proofs.Common.{sym, subst}
use Rattle.moo_dbtext_read.specs.Taking.{HasTaken}
use Rattle.moo_dbtext_read.specs.declared.world_reader.WorldReader.{WorldReader}
use Rattle.moo_dbtext_read.proofs.db_reader.DbReader.end.Goals as goal

pub finish-requires : goal.finish-requires
finish-requires c = c.self.invariant

pub returns-clause-answer : goal.returns-clause-answer
returns-clause-answer c = λ bytes h. c.finish.ensures.answer bytes (subst (λ (r : WorldReader). HasTaken r bytes) (sym c.self.view_is) h)

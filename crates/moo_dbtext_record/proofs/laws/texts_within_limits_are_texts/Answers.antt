use Rattle.moo_dbtext_record.proofs.ReadLaws.{within_limits}
use Rattle.moo_dbtext_record.proofs.laws.texts_within_limits_are_texts.Goals as goal

pub returns : goal.returns
returns c = within_limits

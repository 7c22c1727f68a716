use Rattle.moo_dbtext_record.proofs.DumpSmall.{answer_within}
use Rattle.moo_dbtext_record.proofs.laws.read_texts_have_records_within_limits.Goals as goal

pub returns : goal.returns
returns c = answer_within

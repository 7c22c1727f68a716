use Rattle.moo_dbtext_record.proofs.DumpSmall.{answer_spelled}
use Rattle.moo_dbtext_record.proofs.laws.read_texts_are_spelled_within_limits.Goals as goal

pub returns : goal.returns
returns c = answer_spelled

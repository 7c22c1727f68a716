use Rattle.moo_dbtext_record.proofs.CanonicalText.{canonical_written}
use Rattle.moo_dbtext_record.proofs.laws.texts_may_be_written_in_order.Goals as goal

pub returns : goal.returns
returns c = canonical_written

use Rattle.moo_dbtext_record.proofs.ReadLaws.{one_text}
use Rattle.moo_dbtext_record.proofs.laws.bytes_spell_one_text.Goals as goal

pub returns : goal.returns
returns c = one_text

use Rattle.moo_dbtext_record.proofs.CanonicalText.{canonical_spells}
use Rattle.moo_dbtext_record.proofs.laws.the_writers_lines_spell_the_text.Goals as goal

pub returns : goal.returns
returns c = canonical_spells

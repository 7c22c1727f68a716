use Rattle.moo_syntax_token.proofs.EachText.{each_text_has_a_reading}
use Rattle.moo_syntax_token.proofs.laws.each_text_has_a_reading.Goals as goal

pub returns : goal.returns
returns c = each_text_has_a_reading

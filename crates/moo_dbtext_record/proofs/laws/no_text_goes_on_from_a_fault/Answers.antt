use Rattle.moo_dbtext_record.proofs.AnswerAgain.{no_spelling}
use Rattle.moo_dbtext_record.proofs.laws.no_text_goes_on_from_a_fault.Goals as goal

pub returns : goal.returns
returns c = no_spelling

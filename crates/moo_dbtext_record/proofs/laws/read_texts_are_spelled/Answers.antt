use Rattle.moo_dbtext_record.proofs.AnswerFound.{answer_found}
use Rattle.moo_dbtext_record.proofs.laws.read_texts_are_spelled.Goals as goal

pub returns : goal.returns
returns c = answer_found

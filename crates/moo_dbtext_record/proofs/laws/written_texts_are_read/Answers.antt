use Rattle.std.proofs.Common.{refl}
use Rattle.moo_dbtext_object.specs.Lines.{unlines}
use Rattle.moo_dbtext_record.specs.Texts.{text_lines}
use Rattle.moo_dbtext_record.proofs.AnswerAgain.{answer_again}
use Rattle.moo_dbtext_record.proofs.laws.written_texts_are_read.Goals as goal

pub returns : goal.returns
returns c = λ s t k h. answer_again s (unlines (text_lines t k)) t k h refl

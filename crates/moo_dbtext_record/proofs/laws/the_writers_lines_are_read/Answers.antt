use Rattle.std.proofs.Common.{refl}
use Rattle.moo_dbtext_object.specs.Lines.{unlines}
use Rattle.moo_dbtext_record.specs.Writing.{canonical, canonical_lines}
use Rattle.moo_dbtext_record.proofs.AnswerAgain.{answer_again}
use Rattle.moo_dbtext_record.proofs.laws.the_writers_lines_are_read.Goals as goal

pub returns : goal.returns
returns c = λ s t h. answer_again s (unlines (canonical_lines t)) t (canonical t.programs) h refl

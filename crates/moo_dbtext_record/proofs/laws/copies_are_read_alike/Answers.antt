use Rattle.std.proofs.Common.{refl}
use Rattle.moo_dbtext_object.specs.Lines.{unlimited, unlines}
use Rattle.moo_dbtext_record.specs.Writing.{canonical, canonical_lines}
use Rattle.moo_dbtext_record.proofs.AnswerAgain.{answer_again}
use Rattle.moo_dbtext_record.proofs.CanonicalText.{canonical_written}
use Rattle.moo_dbtext_record.proofs.laws.copies_are_read_alike.Goals as goal

pub returns : goal.returns
returns c = λ bytes t h. answer_again unlimited (unlines (canonical_lines t)) t (canonical t.programs) (canonical_written unlimited t h.slack h.written) refl

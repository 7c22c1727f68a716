use Rattle.moo_dbtext_record.proofs.AnswerCut.{answer_cut}
use Rattle.moo_dbtext_record.proofs.laws.limits_only_refuse.Goals as goal

pub returns : goal.returns
returns c = answer_cut

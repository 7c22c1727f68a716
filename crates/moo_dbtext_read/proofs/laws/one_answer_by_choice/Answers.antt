use Rattle.moo_dbtext_read.proofs.Order as order
use Rattle.moo_dbtext_read.proofs.laws.one_answer_by_choice.Goals as goal

pub returns : goal.returns
returns c = order.one_answer_by_choice

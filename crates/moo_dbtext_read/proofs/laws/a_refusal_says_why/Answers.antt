use Rattle.moo_dbtext_read.proofs.Pieces.{refusal_says}
use Rattle.moo_dbtext_read.proofs.laws.a_refusal_says_why.Goals as goal

pub returns : goal.returns
returns c = refusal_says

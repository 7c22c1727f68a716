use Rattle.moo_dbtext_read.proofs.Whole.{is_found_within}
use Rattle.moo_dbtext_read.proofs.Pieces.{answer_says}
use Rattle.moo_dbtext_read.proofs.db_reader.DbReader.finish.Goals as goal

pub returns-clause-found : goal.returns-clause-found
returns-clause-found c = λ bytes h. is_found_within bytes c.end.result (c.end.ensures.answer bytes h)

pub returns-clause-refused : goal.returns-clause-refused
returns-clause-refused c = λ bytes h. answer_says bytes c.end.result (c.end.ensures.answer bytes h)

use Rattle.moo_syntax_token.proofs.Spellings.{spelling_is_read, spelling_begins_no_comment}
use Rattle.moo_syntax_token.proofs.laws.spelling_is_read.Goals as goal

pub returns-clause-token : goal.returns-clause-token
returns-clause-token c = spelling_is_read

pub returns-clause-no_comment : goal.returns-clause-no_comment
returns-clause-no_comment c = spelling_begins_no_comment

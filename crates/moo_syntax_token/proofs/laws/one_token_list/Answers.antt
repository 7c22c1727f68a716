use Rattle.moo_syntax_token.proofs.Readings.{one_token_list}
use Rattle.moo_syntax_token.proofs.laws.one_token_list.Goals as goal

pub returns : goal.returns
returns c = one_token_list

use Rattle.moo_syntax_token.proofs.Readings.{bad_is_last}
use Rattle.moo_syntax_token.proofs.laws.bad_is_last.Goals as goal

pub returns : goal.returns
returns c = bad_is_last

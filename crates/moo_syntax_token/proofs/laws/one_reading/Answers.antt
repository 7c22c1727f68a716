use Rattle.moo_syntax_token.proofs.Readings.{one_reading}
use Rattle.moo_syntax_token.proofs.laws.one_reading.Goals as goal

pub returns : goal.returns
returns c = one_reading

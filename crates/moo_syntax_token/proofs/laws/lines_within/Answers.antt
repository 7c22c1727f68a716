use Rattle.moo_syntax_token.proofs.Readings.{lines_within}
use Rattle.moo_syntax_token.proofs.laws.lines_within.Goals as goal

pub returns : goal.returns
returns c = lines_within

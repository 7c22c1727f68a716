use Rattle.moo_syntax_token.proofs.Readings.{tokens_or_bad}
use Rattle.moo_syntax_token.proofs.laws.tokens_or_bad.Goals as goal

pub returns : goal.returns
returns c = tokens_or_bad

use Rattle.moo_syntax_token.proofs.Readings.{same_lines_same_tokens}
use Rattle.moo_syntax_token.proofs.laws.same_lines_same_tokens.Goals as goal

pub returns : goal.returns
returns c = same_lines_same_tokens

use Rattle.moo_syntax_token.proofs.Readings.{names_are_names}
use Rattle.moo_syntax_token.proofs.laws.names_are_names.Goals as goal

pub returns : goal.returns
returns c = names_are_names

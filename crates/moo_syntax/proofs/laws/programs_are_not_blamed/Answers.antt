use Rattle.moo_syntax.proofs.Blamed.{parsed_is_not_blamed}
use Rattle.moo_syntax.proofs.laws.programs_are_not_blamed.Goals as goal

pub returns : goal.returns
returns c = parsed_is_not_blamed

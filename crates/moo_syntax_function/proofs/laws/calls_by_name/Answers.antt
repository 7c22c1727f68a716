use Rattle.moo_syntax_function.proofs.Naming as law
use Rattle.moo_syntax_function.proofs.laws.calls_by_name.Goals as goal

pub returns : goal.returns
returns c = law.calls_by_name

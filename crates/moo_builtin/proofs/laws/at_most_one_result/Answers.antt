use Rattle.moo_builtin.proofs.Once as law
use Rattle.moo_builtin.proofs.laws.at_most_one_result.Goals as goal

pub returns : goal.returns
returns c = law.one_result

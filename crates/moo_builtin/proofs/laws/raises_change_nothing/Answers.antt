use Rattle.moo_builtin.proofs.Once as law
use Rattle.moo_builtin.proofs.laws.raises_change_nothing.Goals as goal

pub returns : goal.returns
returns c = law.raises_change_nothing

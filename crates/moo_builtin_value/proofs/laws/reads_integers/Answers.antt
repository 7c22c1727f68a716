use Rattle.moo_builtin_value.proofs.Spelled as law
use Rattle.moo_builtin_value.proofs.laws.reads_integers.Goals as goal

pub returns : goal.returns
returns c = law.reads_integers

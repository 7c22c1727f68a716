use Rattle.moo_eval_call.proofs.Unchanged as law
use Rattle.moo_eval_call.proofs.laws.raises_change_nothing.Goals as goal

pub returns : goal.returns
returns c = law.raises_change_nothing

use Rattle.moo_eval_semantics.proofs.Functions as law
use Rattle.moo_eval_semantics.proofs.laws.every_function_has_a_group.Goals as goal

pub returns : goal.returns
returns c = law.each_function_has_a_group

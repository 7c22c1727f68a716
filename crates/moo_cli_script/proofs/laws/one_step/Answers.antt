use Rattle.moo_cli_script.proofs.OneStep as one
use Rattle.moo_cli_script.proofs.laws.one_step.Goals as goal

pub returns : goal.returns
returns c = one.one_step

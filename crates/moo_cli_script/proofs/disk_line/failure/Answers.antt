use Rattle.moo_cli_script.proofs.Forms.{no_failure}
use Rattle.moo_cli_script.proofs.disk_line.failure.Goals as goal

pub returns-in-None : goal.returns-in-None
returns-in-None c = no_failure c.args.line.now c.in-Some.argument.now c.in-Some-before.digits.now c.in-Some.ensures c.in_default-counted.ensures c.in-Some-before.ensures c.in-None.ensures

use Rattle.moo_cli_script.proofs.Splits.{no_blank, no_number}
use Rattle.moo_cli_script.proofs.address.addressed.Goals as goal

pub returns-in_default : goal.returns-in_default
returns-in_default c = no_blank c.args.argument.now c.in_default.ensures.none

pub returns-in_default-number : goal.returns-in_default-number
returns-in_default-number c =
    no_number c.args.argument.now c.in-Some.at c.in-Some.ensures.within c.in-Some.ensures.some c.in-Some.ensures.before c.in_default-number.ensures

use Rattle.moo_cli_script.specs.ScriptLines.{IsNumber}
use Rattle.moo_cli_script.proofs.Splits.{told_after}
use Rattle.moo_cli_script.proofs.number.number_after.Goals as goal

pub returns : goal.returns
returns c = told_after (IsNumber c.args.most) c.args.line.now c.args.word.now c.in-Some.rest.now c.number.result c.in-Some.ensures c.number.ensures

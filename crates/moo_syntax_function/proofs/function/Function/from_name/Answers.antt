use Rattle.std.proofs.Common.{sym}
use Rattle.moo_syntax_function.proofs.Naming.{called_as_spelled}
use Rattle.moo_syntax_function.proofs.function.Function.from_name.Goals as goal

pub returns-in-Some : goal.returns-in-Some
returns-in-Some c = sym (called_as_spelled c.args.name.now c.in-Some.function c.in-Some.ensures)

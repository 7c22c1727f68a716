use Rattle.std.proofs.Common.{sym}
use Rattle.moo_eval_frame.specs.Seen.{variables_of}
use Rattle.moo_eval_integer.proofs.Given.{variable_gives}
use Rattle.moo_eval_integer.proofs.integer.held_value.Goals as goal

pub returns-clause-value : goal.returns-clause-value
returns-clause-value c = variable_gives (variables_of c.args.active.now.variables) c.in_ok-take.ensures.taken (sym c.in_ok-value.ensures)

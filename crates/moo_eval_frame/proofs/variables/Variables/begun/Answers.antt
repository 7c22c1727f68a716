use Rattle.std.proofs.Common.{ap}
use Rattle.moo_syntax_ast.specs.Given.{given_names}
use Rattle.moo_eval_frame.specs.GivenValues.{given_values}
use Rattle.moo_eval_frame.specs.Seen.{variables_of}
use Rattle.moo_eval_slot.specs.Held.{slot_value}
use Rattle.moo_eval_frame.proofs.variables.Variables.begun.Goals as goal

pub returns : goal.returns
unfolding variables_of
returns c = ap (slot_value given_names (given_values c.args.given)) c.in_ok-own.ensures

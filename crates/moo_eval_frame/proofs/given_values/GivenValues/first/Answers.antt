use Rattle.moo_eval_frame.proofs.FirstValues.{first_so}
use Rattle.moo_eval_frame.proofs.given_values.GivenValues.first.Goals as goal

pub returns : goal.returns
returns c = first_so c.args.frame.now c.of_frame.result c.of_frame.ensures.values c.of_frame.ensures.types c.of_frame.ensures.command

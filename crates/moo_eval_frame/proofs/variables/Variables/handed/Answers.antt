use Rattle.std.proofs.Common.{w32}
use Rattle.std.proofs.lemmas.Int.{to_z-of_z}
use Rattle.moo_eval_frame.proofs.FirstValues.{handed_so}
use Rattle.moo_eval_frame.proofs.variables.Variables.handed.Goals as goal

pub returns : goal.returns
returns c =
    let caller = to_z-of_z w32 c.args.caller c.ranges.caller in
    handed_so c.args.running.now c.args.caller c.args.args c.args.self.now c.handed.result (simp caller at c.handed.ensures.values) c.handed.ensures.types c.handed.ensures.command

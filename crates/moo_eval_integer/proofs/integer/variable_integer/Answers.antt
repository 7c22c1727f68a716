use Rattle.std.proofs.Common.{w32, rules}
use Rattle.std.proofs.lemmas.Int.{to_z-of_z}
use mir.Val.{SFits}
use Rattle.moo_eval_frame.specs.Seen.{variables_of}
use Rattle.moo_eval_integer.proofs.Given.{variable_gives}
use Rattle.moo_eval_integer.proofs.integer.variable_integer.Goals as goal

pub returns : goal.returns
returns c =
    let fits : SFits w32 c.in_ok-number.number = search rules in
    record { value = rw (to_z-of_z w32 c.in_ok-number.number fits) (variable_gives (variables_of c.args.active.now.variables) c.in_ok-take.ensures.taken c.in_ok-number.ensures); ticks = c.in_ok-take.ensures.ticks }

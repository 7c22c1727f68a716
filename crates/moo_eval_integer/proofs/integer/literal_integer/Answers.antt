use Rattle.std.proofs.Common.{w32, rules}
use Rattle.std.proofs.lemmas.Int.{to_z-of_z}
use mir.Val.{SFits}
use Rattle.moo_eval_integer.proofs.Given.{literal_gives}
use Rattle.moo_eval_integer.proofs.integer.literal_integer.Goals as goal

pub returns : goal.returns
returns c =
    let fits : SFits w32 c.args.number = search rules in
    record { value = λ variables. rw (to_z-of_z w32 c.args.number fits) (literal_gives variables c.in_ok-take.ensures.taken); ticks = c.in_ok-take.ensures.ticks }

use Rattle.std.proofs.Common.{rules, w32, ◌∙◌}
use Rattle.std.proofs.lemmas.Int.{to_z-of_z}
use mir.Val.{SFits}
use Rattle.moo_eval_call.proofs.call.plain_values.Goals as goal

pub returns-in_default : goal.returns-in_default
returns-in_default c =
    let fits : SFits w32 c.args.active.now.programmer = search rules in
    let p = to_z-of_z w32 c.args.active.now.programmer fits in
    λ name ticks notices named k. rw p at (c.other_values.ensures name ticks notices named k)

pub returns-in-None : goal.returns-in-None
returns-in-None c =
    let fits : SFits w32 c.args.active.now.programmer = search rules in
    let p = to_z-of_z w32 c.args.active.now.programmer fits in
    λ name ticks notices named k. rw (c.in-None.ensures.unchanged, c.in-None.ensures.kept, p) at (c.other_values-in-None.ensures name ticks notices (named ∙ c.in-Some.is) k)

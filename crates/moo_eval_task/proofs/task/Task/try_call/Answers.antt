use Rattle.std.proofs.Common.{refl, rules}
use Rattle.std.proofs.lemmas.Int.{to_z-of_z}
use mir.Syntax.{w32}
use mir.Val.{SFits}
use Rattle.moo_eval_task.specs.Seen.{state_of}
use Rattle.moo_eval_task.proofs.Ticks.{ticks_seen}
use Rattle.moo_eval_task.proofs.task.Task.try_call.Goals as goal

pub returns-clause-some : goal.returns-clause-some
returns-clause-some c =
    let fits : SFits w32 c.left.result = search rules in
    let ticks = ticks_seen c.left.result c.args.self.now.ticks_left fits c.left.ensures in
    let number : SFits w32 c.in_ok-number.number = search rules in
    let gives = rw ticks at c.in_ok-number.ensures.value in
    λ w k. rw (to_z-of_z w32 c.in_ok-number.number number, c.leave.ensures) (gives k (state_of c.args.self.now w c.args.active.now) refl)

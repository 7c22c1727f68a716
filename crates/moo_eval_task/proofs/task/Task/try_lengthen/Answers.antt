use Rattle.std.proofs.Common.{◌≡◌, ◌<◌, ◌-◌, refl, rules, arith}
use mir.Syntax.{w32}
use mir.Val.{SFits}
use Rattle.moo_eval_task.specs.Seen.{state_of}
use Rattle.moo_eval_task.proofs.Lengthened.{lengthened_at_once}
use Rattle.moo_eval_task.proofs.Ticks.{ticks_seen}
use Rattle.moo_eval_task.proofs.task.Task.try_lengthen.Goals as goal

pub returns-clause-lengthened : goal.returns-clause-lengthened
returns-clause-lengthened c = λ t w k.
    let fits : SFits w32 c.left.result = search rules in
    let ticks = ticks_seen c.left.result c.args.self.now.ticks_left fits c.left.ensures in
    let n = c.args.self.now.ticks_left in
    let z : 2 < n = omega (arith, ticks, c.if-left-lt3.false) in
    let three : n - 3 ≡ n - 1 - 1 - 1 = omega arith in
    let given = rw (ticks, three) at c.in-Some.ensures.value in
    let p = c.in_ok-pushed.ensures.pushed c.if-not-pushed.false in
    rw c.leave.ensures (lengthened_at_once p.0 k (state_of c.args.self.now w c.args.active.now) refl z p.1 given p.2 p.3)

use Rattle.std.proofs.Common.{◌≡◌, ◌<◌, ◌-◌, refl, rules, arith}
use mir.Syntax.{w32}
use mir.Val.{SFits}
use Rattle.moo_eval_task.specs.Seen.{state_of}
use Rattle.moo_eval_task.proofs.Extended.{extended_at_once}
use Rattle.moo_eval_task.proofs.Ticks.{ticks_seen}
use Rattle.moo_eval_task.proofs.task.Task.try_extend.Goals as goal

pub returns-clause-extended : goal.returns-clause-extended
returns-clause-extended c = λ t w k.
    let fits : SFits w32 c.left.result = search rules in
    let ticks = ticks_seen c.left.result c.args.self.now.ticks_left fits c.left.ensures in
    let n = c.args.self.now.ticks_left in
    let z : 2 < n = omega (arith, ticks, c.if-left-lt3.false) in
    let three : n - 3 ≡ n - 1 - 1 - 1 = omega arith in
    let given = rw (ticks, three, c.in-Some-Str.field-0-is) at c.in-Some-Str.ensures.value in
    let p = c.in_ok-extended.ensures.extended c.if-not-extended.false in
    rw c.leave.ensures (extended_at_once k (state_of c.args.self.now w c.args.active.now) refl z p.1 given p.2 p.3)

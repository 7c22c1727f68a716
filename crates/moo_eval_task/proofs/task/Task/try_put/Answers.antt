use Rattle.std.proofs.Common.{◌<◌, sym, rules, arith}
use mir.Syntax.{w32}
use mir.Val.{SFits}
use Rattle.moo_eval_task.specs.Seen.{state_of}
use Rattle.moo_eval_task.proofs.Exits.{same_state}
use Rattle.moo_eval_task.proofs.Placed.{integer_put, put_alone}
use Rattle.moo_eval_task.proofs.Ticks.{ticks_seen}
use Rattle.moo_eval_task.proofs.task.Task.try_put.Goals as goal

pub returns-clause-put : goal.returns-clause-put
returns-clause-put c = λ t w k.
    let fits : SFits w32 c.left.result = search rules in
    let ticks = ticks_seen c.left.result c.args.self.now.ticks_left fits c.left.ensures in
    let z : 0 < c.args.self.now.ticks_left = omega (arith, ticks, c.if-left-eq0.false) in
    let puts = rw ticks at (c.try_put_integer.ensures.put c.if-not-try_put_integer.false) in
    rw c.leave.ensures (put_alone z (integer_put k (state_of c.args.self.now w c.args.active.now) (sym c.try_put_integer.ensures.programmer) puts))

pub returns-then-not-try_put_integer-clause-kept : goal.returns-then-not-try_put_integer-clause-kept
returns-then-not-try_put_integer-clause-kept c = λ f w. same_state (c.try_put_integer.ensures.kept c.if-not-try_put_integer.true) c.try_put_integer.ensures.programmer

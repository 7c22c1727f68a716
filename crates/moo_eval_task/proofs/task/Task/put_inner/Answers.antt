use Rattle.std.proofs.Common.{◌<◌, sym, rules, arith}
use mir.Syntax.{w32}
use mir.Val.{SFits}
use Rattle.moo_eval_task.specs.Seen.{state_of}
use Rattle.moo_eval_task.proofs.Exits.{same_state}
use Rattle.moo_eval_task.proofs.Placed.{inner_put}
use Rattle.moo_eval_task.proofs.Ticks.{ticks_seen}
use Rattle.moo_eval_task.proofs.task.Task.put_inner.Goals as goal

pub returns-clause-put : goal.returns-clause-put
returns-clause-put c = λ t w k.
    let fits : SFits w32 c.left.result = search rules in
    let ticks = ticks_seen c.left.result c.args.self.now.ticks_left fits c.left.ensures in
    let z : 0 < c.args.self.now.ticks_left = omega (arith, ticks, c.if-left-eq0.false) in
    let puts = rw ticks at (c.in_ok-is_put.ensures.put c.if-not-is_put.false) in
    rw c.leave.ensures (inner_put k (state_of c.args.self.now w c.args.active.now) (sym c.in_ok-is_put.ensures.programmer) z puts)

pub returns-then-not-is_put-clause-kept : goal.returns-then-not-is_put-clause-kept
returns-then-not-is_put-clause-kept c = λ f w. same_state (c.in_ok-is_put.ensures.kept c.if-not-is_put.true) c.in_ok-is_put.ensures.programmer

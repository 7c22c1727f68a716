use Rattle.std.proofs.Common.{◌<◌, sym, rules, arith}
use mir.Syntax.{w32}
use mir.Val.{SFits}
use Rattle.moo_eval_task.specs.Seen.{state_of}
use Rattle.moo_eval_task.proofs.Exits.{same_state}
use Rattle.moo_eval_task.proofs.Placed.{value_set}
use Rattle.moo_eval_task.proofs.Ticks.{ticks_seen}
use Rattle.moo_eval_task.proofs.task.Task.try_sum.Goals as goal

pub returns-clause-added : goal.returns-clause-added
returns-clause-added c = λ t w k.
    let fits : SFits w32 c.left.result = search rules in
    let ticks = ticks_seen c.left.result c.args.self.now.ticks_left fits c.left.ensures in
    let z : 0 < c.args.self.now.ticks_left = omega (arith, ticks, c.if-left-eq0.false) in
    let p = rw ticks at (c.try_add_integer.ensures.added c.if-not-try_add_integer.false) in
    rw c.leave.ensures (value_set k (state_of c.args.self.now w c.args.active.now) (sym c.try_add_integer.ensures.programmer) z p.1 p.2)

pub returns-then-not-try_add_integer-clause-kept : goal.returns-then-not-try_add_integer-clause-kept
returns-then-not-try_add_integer-clause-kept c = λ f w. same_state (c.try_add_integer.ensures.kept c.if-not-try_add_integer.true) c.try_add_integer.ensures.programmer

use Rattle.std.proofs.Common.{rules, arith}
use mir.Syntax.{w32}
use mir.Val.{SFits}
use Rattle.moo_value.specs.Tree.{list_of}
use Rattle.moo_value.specs.Size.{IsWithinLimits}
use Rattle.moo_eval_task.specs.Seen.{state_of}
use Rattle.moo_eval_task.proofs.Constants.{spelled_given}
use Rattle.moo_eval_task.proofs.Ticks.{ticks_seen}
use Rattle.moo_eval_task.proofs.task.Task.try_constant.Goals as goal

pub returns-clause-some : goal.returns-clause-some
returns-clause-some c =
    let fits : SFits w32 c.left-left.result = search rules in
    let ticks = ticks_seen c.left-left.result c.args.self.now.ticks_left fits c.left-left.ensures in
    let limits : IsWithinLimits (list_of c.args.literals.now) = rw c.list-list.ensures at c.weight.ensures.limits in
    λ w active k. rw (c.in_ok-value.ensures, c.list-list.ensures)
    (spelled_given (list_of c.args.literals.now) (state_of c.args.self.now w active) c.leave.new.self limits
    (omega (arith, c.if-left-nodes.false, c.nodes.ensures, ticks)) (omega (arith, c.if-left-nodes.false, c.leave.ensures, c.nodes.ensures, c.nodes-2.ensures, ticks)))

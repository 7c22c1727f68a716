use Rattle.std.proofs.Common.{refl, sym, rules, arith}
use mir.Syntax.{w32}
use mir.Val.{SFits}
use Rattle.moo_value.specs.View.{tree}
use Rattle.moo_eval_frame.specs.Seen.{variables_of}
use Rattle.moo_eval_task.proofs.Compared.{compared}
use Rattle.moo_eval_task.proofs.Ticks.{ticks_seen}
use Rattle.moo_eval_task.proofs.task.Task.try_operands.Goals as goal

pub returns-clause-some : goal.returns-clause-some
returns-clause-some c =
    let fits : SFits w32 c.left-ticks.result = search rules in
    let ticks = ticks_seen c.left-ticks.result c.args.self.now.ticks_left fits c.left-ticks.ensures in
    let made = rw c.in-Ok.is at c.binary.ensures in
    λ w k. (tree c.in-Ok.value, rw c.leave.ensures (compared (variables_of c.args.active.now.variables) _ c.in_ok-left_value.ensures c.in_ok-right_value.ensures made refl (omega (arith, ticks, c.if-ticks-lt3.false)) (omega (arith, ticks))), sym c.is_true.ensures)

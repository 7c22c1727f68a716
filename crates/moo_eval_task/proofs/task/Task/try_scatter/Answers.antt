use Rattle.std.proofs.Common.{◌≡◌, ◌<◌, ◌-◌, sym, rules, arith}
use mir.Syntax.{w32}
use mir.Val.{SFits}
use Rattle.moo_eval_task.specs.Seen.{state_of}
use Rattle.moo_eval_task.proofs.Dealt.{dealt_at_once}
use Rattle.moo_eval_task.proofs.Ticks.{ticks_seen}
use Rattle.moo_eval_task.proofs.task.Task.try_scatter.Goals as goal

pub returns-clause-set : goal.returns-clause-set
returns-clause-set c = λ t w k.
    let fits : SFits w32 c.left-left.result = search rules in
    let ticks = ticks_seen c.left-left.result c.args.self.now.ticks_left fits c.left-left.ensures in
    let n = c.args.self.now.ticks_left in
    let z : 1 < n = omega (arith, ticks, c.if-left-lt2.false) in
    let two : n - 2 ≡ n - 1 - 1 = omega arith in
    let p = c.in_ok-dealt.ensures.set c.if-not-dealt.false in
    rw (c.leave.ensures, ticks) (dealt_at_once c.args.names.now k (state_of c.args.self.now w c.args.active.now) (sym p.2) z two c.in-Some.ensures p.0 p.1)

use Rattle.std.proofs.Common.{Bool, true, false, ◌<◌, subst, arith}
use Rattle.std.proofs.lemmas.Result.{err_from_is_err_and}
use Rattle.moo_builtin.specs.Telling.{Faults}
use Rattle.moo_session_task.proofs.Potential.{potential}
use Rattle.moo_session_task.specs.Hooks.{RunsNext}
use Rattle.moo_session_task.proofs.Steps.{hooks_go_on, hooks_end, next_lt}
use Rattle.moo_session_task.proofs.hooks.run_hooks.Goals as goal

pub loop-init : goal.loop-init
loop-init c = λ end d. d

pub returns-in_err-run_next : goal.returns-in_err-run_next
returns-in_err-run_next c = let p = err_from_is_err_and c.from_residual.result c.from_residual.ensures.1 in rw p.1 tt

pub loop-smaller : goal.loop-smaller
loop-smaller c =
    let step = subst (λ (b : Bool). RunsNext Faults c.args.moment c.loop.live b c.run_next.new.live) c.if-branch.true c.in_ok-run_next.ensures in
    let h = next_lt c.args.moment c.loop.live c.run_next.new.live step in
    let less : potential c.run_next.new.live.session < potential c.loop.live.session = omega (arith, h) in less

pub loop-preserved : goal.loop-preserved
loop-preserved c =
    let step = subst (λ (b : Bool). RunsNext Faults c.args.moment c.loop.live b c.run_next.new.live) c.if-branch.true c.in_ok-run_next.ensures in
    λ end d. c.loop.invariant end (hooks_go_on c.args.moment c.loop.live c.run_next.new.live step end d)

pub returns : goal.returns
returns c =
    let step = subst (λ (b : Bool). RunsNext Faults c.args.moment c.loop.live b c.run_next.new.live) c.if-branch.false c.in_ok-run_next.ensures in
    c.loop.invariant c.run_next.new.live (hooks_end c.args.moment c.loop.live c.run_next.new.live step)

use Rattle.std.proofs.Common.{◌-◌, arith}
use Rattle.std.proofs.lemmas.Result.{err_from_is_err_and}
use Rattle.moo_value.specs.Tree.{elements_of, list_of}
use Rattle.moo_value.specs.Size.{IsWithinLimits}
use Rattle.moo_eval_task.specs.Seen.{state_of}
use Rattle.moo_eval_task.proofs.Constants.{list_given, list_ends}
use Rattle.moo_eval_task.proofs.task.Task.constant.Goals as goal

pub returns-clause-meaning : goal.returns-clause-meaning
returns-clause-meaning c =
    let limits : IsWithinLimits (list_of c.args.literals.now) = rw c.list-list.ensures at c.weight.ensures.limits in
    λ indexed w k. rw (c.in_ok-take_ticks.ensures.left, c.in_ok-try_clone.ensures, c.list-list.ensures)
    (list_given (elements_of c.args.literals.now) (state_of c.args.self.now w c.args.active.now) (c.args.self.now.ticks_left - (c.nodes.result - 1)) limits
    (omega (arith, c.in_ok-take_ticks.ensures.taken, c.nodes.ensures)) (omega (arith, c.nodes.ensures)))

pub returns-in_err-take_ticks-clause-meaning : goal.returns-in_err-take_ticks-clause-meaning
returns-in_err-take_ticks-clause-meaning c =
    let p = err_from_is_err_and c.from_residual.result c.from_residual.ensures.1 in
    let limits : IsWithinLimits (list_of c.args.literals.now) = rw c.list-list.ensures at c.weight.ensures.limits in
    rw (p.1, p.2) (λ indexed w k.
    let h = c.in_err-take_ticks.ensures.spent k in
    rw (c.in_err-take_ticks.ensures.emptied, h.1) (list_ends (elements_of c.args.literals.now) (state_of c.args.self.now w c.args.active.now) limits (omega (arith, h.0, c.nodes.ensures))))

use Rattle.std.proofs.Common.{refl}
use Rattle.moo_eval_task.specs.Seen.{state_of}
use Rattle.moo_eval_task.proofs.task.Task.try_leaf.Goals as goal

pub returns-clause-some : goal.returns-clause-some
returns-clause-some c =
    let taken = c.if-not-take.ensures.taken refl in
    λ w k. rw taken.1 (c.in_ok-value.ensures k (state_of c.args.self.now w c.args.active.now) refl taken.0)

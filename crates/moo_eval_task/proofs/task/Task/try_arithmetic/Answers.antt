use Rattle.std.proofs.Common.{sym, w32, rules}
use Rattle.std.proofs.lemmas.Int.{to_z-of_z}
use mir.Val.{SFits}
use Rattle.moo_value.specs.Tree.{integer}
use Rattle.moo_eval_task.proofs.task.Task.try_arithmetic.Goals as goal

pub returns-clause-some : goal.returns-clause-some
returns-clause-some c =
    let number : SFits w32 c.in_ok-number.number = search rules in
    λ w k. (integer c.in_ok-number.number, c.in_ok-number.ensures.some w k, sym (rw (to_z-of_z w32 c.in_ok-number.number number) at c.counts_as_true.ensures))

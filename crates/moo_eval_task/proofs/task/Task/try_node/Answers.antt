use Rattle.std.proofs.Common.{rules}
use Rattle.std.proofs.lemmas.Int.{to_z-of_z}
use mir.Syntax.{w32}
use mir.Val.{SFits}
use Rattle.moo_syntax_node.proofs.Rows.{row_items}
use Rattle.moo_eval_task.proofs.task.Task.try_node.Goals as goal

pub returns-in_ok-number-in-Arithmetic-clause-some : goal.returns-in_ok-number-in-Arithmetic-clause-some
returns-in_ok-number-in-Arithmetic-clause-some c =
    let number : SFits w32 c.in_ok-number-in-Arithmetic.number = search rules in
    λ w k. rw (c.in-Arithmetic.is, ← c.deref.ensures, ← c.deref-in-Arithmetic.ensures, to_z-of_z w32 c.in_ok-number-in-Arithmetic.number number) (c.in_ok-number-in-Arithmetic.ensures.some w k)

pub returns-in_ok-number-in-Call-clause-some : goal.returns-in_ok-number-in-Call-clause-some
returns-in_ok-number-in-Call-clause-some c =
    let number : SFits w32 c.in_ok-number-in-Call.number = search rules in
    λ w k. rw (c.in-Call.is, row_items, ← c.deref-in-Call.ensures.value, to_z-of_z w32 c.in_ok-number-in-Call.number number) (c.in_ok-number-in-Call.ensures.some w k)

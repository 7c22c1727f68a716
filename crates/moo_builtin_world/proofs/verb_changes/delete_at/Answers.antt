use Rattle.std.proofs.Common.{w32, ap, ◌∙◌}
use Rattle.std.specs.Prelude.{Err}
use Rattle.std.proofs.lemmas.Int.{to_z-of_z}
use Rattle.std.proofs.lemmas.Result.{err_from_is_err_and}
use Rattle.moo_builtin_world.specs.Verbs.{without_chosen}
use Rattle.moo_builtin_world.proofs.Changed.{refused, done, answered, refused_never, changed_never}
use Rattle.moo_builtin_world.proofs.verb_changes.delete_at.Goals as goal

pub returns-in_err-permitted-clause-answer : goal.returns-in_err-permitted-clause-answer
unfolding without_chosen
returns-in_err-permitted-clause-answer c =
    let o = to_z-of_z w32 c.args.o c.ranges.o in
    let p = to_z-of_z w32 c.args.programmer c.ranges.programmer in
    let e = err_from_is_err_and c.from_residual.result c.from_residual.ensures.1 in
    rw (e.1, e.2) (refused _ _ _ _ _ _ _ (simp o at c.try_verb.ensures.raises) (simp (o, p) at c.may_write_object-is_allowed.ensures) c.in_err-permitted.ensures)

pub returns-clause-answer : goal.returns-clause-answer
unfolding without_chosen
returns-clause-answer c =
    let o = to_z-of_z w32 c.args.o c.ranges.o in
    let p = to_z-of_z w32 c.args.programmer c.ranges.programmer in
    answered _ _ _ _ _ c.changed.ensures
    (done _ _ _ _ _ _ _ _ _ (simp o at c.try_verb.ensures.raises) (simp (o, p) at c.may_write_object-is_allowed.ensures) c.in_ok-permitted.ensures (simp o at c.delete_verb.ensures.world))

pub returns-in_err-permitted-clause-memory : goal.returns-in_err-permitted-clause-memory
returns-in_err-permitted-clause-memory c =
    let e = err_from_is_err_and c.from_residual.result c.from_residual.ensures.1 in
    refused_never _ _ _ _ c.try_verb.ensures.memory c.in_err-permitted.ensures (e.1 ∙ ap Err e.2)

pub returns-clause-memory : goal.returns-clause-memory
returns-clause-memory c = changed_never _ _ c.delete_verb.ensures.memory c.changed.ensures

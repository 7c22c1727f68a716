use Rattle.std.proofs.Common.{w32, ap, ◌∙◌}
use Rattle.std.specs.Prelude.{Err}
use Rattle.std.proofs.lemmas.Int.{to_z-of_z}
use Rattle.std.proofs.lemmas.Result.{err_from_is_err_and}
use Rattle.moo_builtin_world.specs.Properties.{without_named}
use Rattle.moo_builtin_world.proofs.Changed.{refused, done, answered, refused_never, never_lacks, lacks_due}
use Rattle.moo_builtin_world.proofs.properties.delete.Goals as goal

pub returns-in_err-permitted-clause-answer : goal.returns-in_err-permitted-clause-answer
unfolding without_named
returns-in_err-permitted-clause-answer c =
    let o = to_z-of_z w32 c.args.o c.ranges.o in
    let n = c.as_bytes-name.ensures.value in
    let p = to_z-of_z w32 c.args.programmer c.ranges.programmer in
    let e = err_from_is_err_and c.from_residual.result c.from_residual.ensures.1 in
    rw (e.1, e.2) (refused _ _ _ _ _ _ _ (simp (o, n) at c.try_delete_property.ensures.raises) (simp (o, p) at c.may_write_object-is_allowed.ensures) c.in_err-permitted.ensures)

pub returns-clause-answer : goal.returns-clause-answer
unfolding without_named
returns-clause-answer c =
    let o = to_z-of_z w32 c.args.o c.ranges.o in
    let n = c.as_bytes-name.ensures.value in
    let p = to_z-of_z w32 c.args.programmer c.ranges.programmer in
    answered _ _ _ _ _ c.changed.ensures
    (done _ _ _ _ _ _ _ _ _ (simp (o, n) at c.try_delete_property.ensures.raises) (simp (o, p) at c.may_write_object-is_allowed.ensures) c.in_ok-permitted.ensures (simp (o, n) at c.delete_property.ensures.world))

pub returns-in_err-permitted-clause-memory : goal.returns-in_err-permitted-clause-memory
returns-in_err-permitted-clause-memory c =
    let e = err_from_is_err_and c.from_residual.result c.from_residual.ensures.1 in
    never_lacks _ _ (refused_never _ _ _ _ c.try_delete_property.ensures.memory c.in_err-permitted.ensures (e.1 ∙ ap Err e.2))

pub returns-clause-memory : goal.returns-clause-memory
unfolding without_named
returns-clause-memory c =
    let o = to_z-of_z w32 c.args.o c.ranges.o in
    let n = c.as_bytes-name.ensures.value in
    let p = to_z-of_z w32 c.args.programmer c.ranges.programmer in
    lacks_due _ _ _ _ _ _ _ _ (simp (o, p) at c.may_write_object-is_allowed.ensures) c.in_ok-permitted.ensures (simp (o, n) at c.delete_property.ensures.memory) c.changed.ensures

use Rattle.std.proofs.Common.{w32, FitsSigned, rules}
use Rattle.std.proofs.lemmas.Int.{to_z-of_z}
use Rattle.std.proofs.lemmas.Result.{err_from_is_err_and}
use Rattle.moo_builtin_world.specs.Verbs.{with_new_verb}
use Rattle.moo_builtin_world.proofs.Changed.{refused, done, answered}
use Rattle.moo_builtin_world.proofs.verb_changes.put_verb.Goals as goal

pub returns-in_err-permitted : goal.returns-in_err-permitted
unfolding with_new_verb
returns-in_err-permitted c =
    let o = to_z-of_z w32 c.args.o c.ranges.o in
    let p = to_z-of_z w32 c.args.programmer c.ranges.programmer in
    let fits : FitsSigned w32 c.args.given.owner = search rules in
    let g = to_z-of_z w32 c.args.given.owner fits in
    let e = err_from_is_err_and c.from_residual.result c.from_residual.ensures.1 in
    rw (e.1, e.2) (refused _ _ _ _ _ _ _ (simp o at c.try_add_verb.ensures.raises) (simp (o, p, g) at c.may_add-is_allowed.ensures) c.in_err-permitted.ensures)

pub returns : goal.returns
unfolding with_new_verb
returns c =
    let o = to_z-of_z w32 c.args.o c.ranges.o in
    let p = to_z-of_z w32 c.args.programmer c.ranges.programmer in
    let fits : FitsSigned w32 c.args.given.owner = search rules in
    let g = to_z-of_z w32 c.args.given.owner fits in
    answered _ _ _ _ _ c.changed.ensures
    (done _ _ _ _ _ _ _ _ _ (simp o at c.try_add_verb.ensures.raises) (simp (o, p, g) at c.may_add-is_allowed.ensures) c.in_ok-permitted.ensures (simp (o, g) at c.add_verb.ensures.world))

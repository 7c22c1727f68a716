use Rattle.std.proofs.Common.{w32, rules, ⊎_elim}
use Rattle.std.proofs.lemmas.Bool.{cases_Bool}
use Rattle.std.proofs.lemmas.Int.{to_z-of_z}
use mir.Val.{SFits}
use Rattle.moo_eval_access.proofs.Written.{dropped_alike, unchanged_alike}
use Rattle.moo_eval_access.proofs.object.drop_written.Goals as goal

pub returns-in-Obj : goal.returns-in-Obj
returns-in-Obj c =
    let rights : SFits w32 c.args.programmer = search rules in
    let fits : SFits w32 c.in-Obj.o = search rules in
    let dropped = rw (to_z-of_z w32 c.args.programmer rights, to_z-of_z w32 c.in-Obj.o fits) at c.try_drop_written-dropped.ensures.dropped in
    ⊎_elim
    (λ t. rw c.in-Obj.is (dropped_alike _ _ c.args.programmer c.in-Obj.o c.args.name.now (dropped t)))
    (λ f. unchanged_alike _ _ _ _ _ (c.try_drop_written-dropped.ensures.kept f))
    (cases_Bool c.try_drop_written-dropped.result)

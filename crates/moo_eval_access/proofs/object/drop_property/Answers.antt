use Rattle.std.proofs.Common.{◌≡◌, w32, rules, ⊎_elim}
use Rattle.std.proofs.lemmas.Bool.{cases_Bool}
use Rattle.std.proofs.lemmas.Int.{to_z-of_z}
use mir.Val.{SFits}
use Rattle.moo_eval_access.proofs.Written.{dropped_alike, unchanged_alike}
use Rattle.moo_eval_access.proofs.object.drop_property.Goals as goal

pub returns-in-Obj-Str : goal.returns-in-Obj-Str
returns-in-Obj-Str c =
    let rights : SFits w32 c.args.programmer = search rules in
    let fits : SFits w32 c.in-Obj-Str.o = search rules in
    let bytes : c.as_bytes.result.now ≡ c.in-Obj-Str.name = c.as_bytes.ensures.value in
    let dropped = rw (to_z-of_z w32 c.args.programmer rights, to_z-of_z w32 c.in-Obj-Str.o fits, bytes) at c.try_drop-dropped.ensures.dropped in
    ⊎_elim
    (λ t. rw (c.in-Obj-Str.is-0, c.in-Obj-Str.is-1) (dropped_alike _ _ c.args.programmer c.in-Obj-Str.o c.in-Obj-Str.name (dropped t)))
    (λ f. unchanged_alike _ _ _ _ _ (c.try_drop-dropped.ensures.kept f))
    (cases_Bool c.try_drop-dropped.result)

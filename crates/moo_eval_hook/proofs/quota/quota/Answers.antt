use Rattle.std.proofs.Common.{◌∙◌, refl, ap, w32}
use Rattle.std.proofs.lemmas.Int.{to_z-of_z}
use Rattle.std.proofs.Common.{Err}
use Rattle.moo_eval_semantics.specs.Quota.{quota}
use Rattle.moo_eval_hook.proofs.Quotas.{was_read, was_raised}
use Rattle.moo_eval_hook.proofs.quota.quota.Goals as goal

pub returns-in-Ok : goal.returns-in-Ok
unfolding quota
returns-in-Ok c =
    let owner = to_z-of_z w32 c.args.owner c.ranges.owner in
    let read = was_read c.get.result _ _ c.in-Ok.value (simp owner at c.get.ensures.value) c.in-Ok.is in
    rw (read.0, read.1) c.integer_in.ensures

pub returns-in-Err-Raise : goal.returns-in-Err-Raise
unfolding quota
returns-in-Err-Raise c =
    let owner = to_z-of_z w32 c.args.owner c.ranges.owner in
    let raises = was_raised c.get.result _ _ c.in-Err-Raise.field-0-0 (simp owner at c.get.ensures.value) (c.in-Err-Raise.is ∙ ap Err c.in-Err-Raise.field-0-is) in
    rw raises refl

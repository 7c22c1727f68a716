use Rattle.std.proofs.Common.{◌∙◌, rules, w32}
use mir.Val.{SFits}
use Rattle.std.proofs.lemmas.Int.{to_z-of_z}
use Rattle.moo_eval_hook.proofs.Quotas.{uncounted, set_or_left}
use Rattle.moo_eval_semantics.specs.Quota.{with_quota}
use Rattle.moo_eval_hook.proofs.quota.change_quota.Goals as goal

pub returns-in_default : goal.returns-in_default
returns-in_default c = uncounted c.args.world.now c.args.owner c.args.change c.args.quota c.in_default.not-Some

pub returns : goal.returns
unfolding with_quota
returns c =
    let owner = to_z-of_z w32 c.args.owner c.ranges.owner in
    let change = to_z-of_z w32 c.args.change c.ranges.change in
    let fits : SFits w32 c.in-Some.left = search rules in
    let left = to_z-of_z w32 c.in-Some.left fits in
    let g : SFits w32 c.sum.result = search rules in
    let sum = to_z-of_z w32 c.sum.result g ∙ simp (left, change) at c.sum.ensures in
    rw c.in-Some.is (set_or_left c.set-set.result _ _ _ _ (simp (owner, sum) at c.set-set.ensures.world) c.set-set.ensures.memory)

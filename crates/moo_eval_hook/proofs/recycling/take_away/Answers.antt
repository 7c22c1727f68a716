use Rattle.std.proofs.Common.{◌∙◌, sym, ap, rules, w32}
use mir.Val.{SFits}
use Rattle.std.proofs.lemmas.Int.{to_z-of_z}
use Rattle.std.proofs.lemmas.Result.{err_from_is_err_and}
use Rattle.moo_eval_semantics.specs.declared.stage.Stage.TheVariants.{Recycled}
use Rattle.moo_eval_semantics.specs.Progressing.{stage_next}
use Rattle.moo_eval_semantics.specs.Recycling.{owner_of, uncounted, taken_away}
use Rattle.moo_eval_hook.proofs.Raised.{refused, changed}
use Rattle.moo_eval_hook.proofs.recycling.take_away.Goals as goal

pub returns-in_err-as_outcome : goal.returns-in_err-as_outcome
unfolding taken_away
returns-in_err-as_outcome c =
    let o = to_z-of_z w32 c.args.o c.ranges.o in
    let p = err_from_is_err_and c.from_residual.result c.from_residual.ensures.1 in
    rw (p.1, p.2) (λ k. refused c.recycle_bare.result _ _ _ _ _ _ (simp o at c.recycle_bare.ensures.world) (sym c.in_err-as_outcome.ensures) k)

pub returns : goal.returns
unfolding taken_away
returns c =
    let o = to_z-of_z w32 c.args.o c.ranges.o in
    let f : SFits w32 c.owner_of-owner.result = search rules in
    let owner = to_z-of_z w32 c.owner_of-owner.result f ∙ simp o at c.owner_of-owner.ensures in
    let left = simp owner at c.in_ok-left.ensures in
    λ k. changed c.recycle_bare.result c.in_ok-as_outcome.field-0 _ _ _ _ (λ x. (stage_next (Recycled c.args.o), uncounted x (owner_of c.args.world.now c.args.o))) _ (simp o at c.recycle_bare.ensures.world) (sym c.in_ok-as_outcome.ensures) (ap (λ x. (stage_next (Recycled c.args.o), x)) (sym (simp (owner, left) at c.change_quota.ensures)) ∙ ap (λ n. (stage_next (Recycled n), c.change_quota.new.world)) (sym o))

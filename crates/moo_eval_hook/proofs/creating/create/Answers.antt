use Rattle.std.proofs.Common.{◌≡◌, ◌∙◌, refl, sym, ap, codes, negsuc, rules, w32}
use mir.Val.{SFits}
use Rattle.std.proofs.lemmas.Int.{to_z-of_z}
use Rattle.std.proofs.lemmas.Result.{err_from_is_err_and}
use Rattle.std.proofs.Common.{[]}
use Rattle.moo_eval_semantics.specs.declared.stage.Stage.TheVariants.{Created}
use Rattle.moo_eval_semantics.specs.Progressing.{hook}
use Rattle.moo_eval_semantics.specs.Quota.{quota, with_quota}
use Rattle.moo_eval_semantics.specs.Creating.{creating, next_number}
use Rattle.moo_eval_hook.specs.SeenByHooks.{calling_of}
use Rattle.moo_eval_hook.proofs.Raised.{test_refused, test_passed, given, made}
use Rattle.moo_eval_hook.proofs.creating.create.Goals as goal

pub returns-then-not-may_be_parent : goal.returns-then-not-may_be_parent
unfolding creating
returns-then-not-may_be_parent c =
    let f : SFits w32 c.args.active.now.programmer = search rules in
    let programmer = to_z-of_z w32 c.args.active.now.programmer f in
    let up = to_z-of_z w32 c.args.up c.ranges.up in
    let parent = simp (programmer, up) at (sym c.may_be_parent.ensures ∙ c.if-not-may_be_parent.true) in
    λ k. rw parent refl

pub returns-then-is_used_up : goal.returns-then-is_used_up
unfolding creating
returns-then-is_used_up c =
    let f : SFits w32 c.args.active.now.programmer = search rules in
    let programmer = to_z-of_z w32 c.args.active.now.programmer f in
    let up = to_z-of_z w32 c.args.up c.ranges.up in
    let owner = to_z-of_z w32 c.args.owner c.ranges.owner in
    let parent = simp (programmer, up) at (sym c.may_be_parent.ensures ∙ c.if-not-may_be_parent.false) in
    let left = simp owner at c.in_ok-left.ensures in
    let used = rw left at (sym c.is_used_up.ensures ∙ c.if-is_used_up.true) in
    λ k. rw (parent, used) refl

pub returns-in_err-as_outcome : goal.returns-in_err-as_outcome
unfolding creating
returns-in_err-as_outcome c =
    let f : SFits w32 c.args.active.now.programmer = search rules in
    let programmer = to_z-of_z w32 c.args.active.now.programmer f in
    let up = to_z-of_z w32 c.args.up c.ranges.up in
    let owner = to_z-of_z w32 c.args.owner c.ranges.owner in
    let parent = simp (programmer, up) at (sym c.may_be_parent.ensures ∙ c.if-not-may_be_parent.false) in
    let left = simp owner at c.in_ok-left.ensures in
    let used = rw left at (sym c.is_used_up.ensures ∙ c.if-is_used_up.false) in
    let p = err_from_is_err_and c.from_residual-in_err-as_outcome.result c.from_residual-in_err-as_outcome.ensures.1 in
    rw (p.1, p.2) (λ k. rw (parent, used) (test_refused c.try_create.result _ _ _ _ (simp up at c.try_create.ensures.raises) (sym c.in_err-as_outcome.ensures) k))

pub returns-then-not-controls : goal.returns-then-not-controls
unfolding creating
returns-then-not-controls c =
    let f : SFits w32 c.args.active.now.programmer = search rules in
    let programmer = to_z-of_z w32 c.args.active.now.programmer f in
    let up = to_z-of_z w32 c.args.up c.ranges.up in
    let owner = to_z-of_z w32 c.args.owner c.ranges.owner in
    let parent = simp (programmer, up) at (sym c.may_be_parent.ensures ∙ c.if-not-may_be_parent.false) in
    let left = simp owner at c.in_ok-left.ensures in
    let used = rw left at (sym c.is_used_up.ensures ∙ c.if-is_used_up.false) in
    let none = test_passed c.try_create.result c.in_ok-as_outcome.field-0 _ (simp up at c.try_create.ensures.raises) (sym c.in_ok-as_outcome.ensures) in
    let control = simp (programmer, owner) at (sym c.controls.ensures ∙ c.if-not-controls.true) in
    λ k. rw (parent, used, none, control) refl

pub returns : goal.returns
unfolding creating
returns c =
    let f : SFits w32 c.args.active.now.programmer = search rules in
    let programmer = to_z-of_z w32 c.args.active.now.programmer f in
    let up = to_z-of_z w32 c.args.up c.ranges.up in
    let owner = to_z-of_z w32 c.args.owner c.ranges.owner in
    let parent = simp (programmer, up) at (sym c.may_be_parent.ensures ∙ c.if-not-may_be_parent.false) in
    let left = simp owner at c.in_ok-left.ensures in
    let used = rw left at (sym c.is_used_up.ensures ∙ c.if-is_used_up.false) in
    let none = test_passed c.try_create.result c.in_ok-as_outcome.field-0 _ (simp up at c.try_create.ensures.raises) (sym c.in_ok-as_outcome.ensures) in
    let control = simp (programmer, owner) at (sym c.controls.ensures ∙ c.if-not-controls.false) in
    let f : SFits w32 c.owner_of_new-owner_of_new.result = search rules in
    let new_owner = to_z-of_z w32 c.owner_of_new-owner_of_new.result f ∙ simp owner at c.owner_of_new-owner_of_new.ensures in
    let number : c.in_ok-o.o ≡ next_number c.args.world.now = given c.create.result c.in_ok-o.o (λ o. o ≡ next_number c.args.world.now) c.create.ensures.number (sym c.in_ok-o.ensures) in
    let g : SFits w32 c.in_ok-o.o = search rules in
    let numbered = to_z-of_z w32 c.in_ok-o.o g ∙ number in
    let world = simp (owner, left) at c.change_quota.ensures ∙ ap (λ x. with_quota x c.args.owner (quota c.args.world.now c.args.owner) (negsuc 0)) (made c.create.result c.in_ok-o.o _ _ _ _ (simp (up, new_owner) at c.create.ensures.world) (sym c.in_ok-o.ensures)) in
    λ k. rw (parent, used, none, control)
    (ap (λ x. (hook (calling_of c.args.stack.now c.args.active.now) x (codes "create") (next_number c.args.world.now) (codes "initialize") [] (Created (next_number c.args.world.now)), x)) (sym world)
    ∙ ap (λ z. (z, c.change_quota.new.world)) (simp numbered at (c.hook.ensures k)))

use Rattle.std.proofs.Common.{◌∙◌, sym, codes, rules, w32}
use mir.Val.{SFits}
use Rattle.std.proofs.lemmas.Int.{to_z-of_z}
use Rattle.std.proofs.lemmas.Result.{err_from_is_err_and}
use Rattle.moo_eval_semantics.specs.declared.stage.Stage.TheVariants.{Leaving}
use Rattle.moo_eval_semantics.specs.Objects.{location}
use Rattle.moo_eval_semantics.specs.Moving.{move_calls}
use Rattle.moo_eval_hook.specs.SeenByHooks.{calling_of}
use Rattle.moo_eval_hook.proofs.Moves.{stays, leaves}
use Rattle.moo_eval_hook.proofs.Raised.{refused, changed}
use Rattle.moo_eval_hook.proofs.moving.move_object.Goals as goal

pub returns-then-not-is_to_move : goal.returns-then-not-is_to_move
returns-then-not-is_to_move c =
    let what = to_z-of_z w32 c.args.what c.ranges.what in
    let to = to_z-of_z w32 c.args.to c.ranges.to in
    λ k. stays (calling_of c.args.stack.now c.args.active.now) c.args.world.now c.args.what c.args.to (simp (what, to) at (sym c.is_to_move.ensures ∙ c.if-not-is_to_move.true))

pub returns-in_err-as_outcome : goal.returns-in_err-as_outcome
returns-in_err-as_outcome c =
    let what = to_z-of_z w32 c.args.what c.ranges.what in
    let to = to_z-of_z w32 c.args.to c.ranges.to in
    let p = err_from_is_err_and c.from_residual.result c.from_residual.ensures.1 in
    rw (p.1, p.2) (λ k. leaves (calling_of c.args.stack.now c.args.active.now) c.args.world.now c.args.what c.args.to _ (simp (what, to) at (sym c.is_to_move.ensures ∙ c.if-not-is_to_move.false)) (refused c.move_bare.result _ _ _ _ _ _ (simp (what, to) at c.move_bare.ensures.world) (sym c.in_err-as_outcome.ensures) k))

pub returns : goal.returns
returns c =
    let what = to_z-of_z w32 c.args.what c.ranges.what in
    let to = to_z-of_z w32 c.args.to c.ranges.to in
    let fits : SFits w32 c.location-old.result = search rules in
    let old = to_z-of_z w32 c.location-old.result fits ∙ simp what at c.location-old.ensures in
    λ k. leaves (calling_of c.args.stack.now c.args.active.now) c.args.world.now c.args.what c.args.to _ (simp (what, to) at (sym c.is_to_move.ensures ∙ c.if-not-is_to_move.false)) (changed c.move_bare.result c.in_ok-as_outcome.field-0 _ _ _ _ (λ x. move_calls (calling_of c.args.stack.now c.args.active.now) x (location c.args.world.now c.args.what) (codes "exitfunc") c.args.what (Leaving c.args.what c.args.to)) _ (simp (what, to) at c.move_bare.ensures.world) (sym c.in_ok-as_outcome.ensures) (rw old at (simp (what, to) at (c.call_verb.ensures k))))

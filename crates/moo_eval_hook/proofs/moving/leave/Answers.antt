use Rattle.std.proofs.Common.{◌∙◌, sym, w32}
use Rattle.std.proofs.lemmas.Int.{to_z-of_z}
use Rattle.moo_eval_hook.specs.SeenByHooks.{calling_of}
use Rattle.moo_eval_hook.proofs.Moves.{gone, comes}
use Rattle.moo_eval_hook.proofs.moving.leave.Goals as goal

pub returns-then-not-has_come : goal.returns-then-not-has_come
returns-then-not-has_come c =
    let what = to_z-of_z w32 c.args.what c.ranges.what in
    let to = to_z-of_z w32 c.args.to c.ranges.to in
    λ k. gone (calling_of c.args.stack.now c.args.active.now) c.args.world.now c.args.what c.args.to (simp (what, to) at (sym c.has_come.ensures ∙ c.if-not-has_come.true))

pub returns : goal.returns
returns c =
    let what = to_z-of_z w32 c.args.what c.ranges.what in
    let to = to_z-of_z w32 c.args.to c.ranges.to in
    λ k. comes (calling_of c.args.stack.now c.args.active.now) c.args.world.now c.args.what c.args.to _ (simp (what, to) at (sym c.has_come.ensures ∙ c.if-not-has_come.false)) (simp (what, to) at (c.call_verb.ensures k))

use Rattle.std.proofs.Common.{◌∙◌, sym, rules, w32}
use mir.Val.{SFits}
use Rattle.std.proofs.lemmas.Int.{to_z-of_z}
use Rattle.moo_eval_hook.specs.SeenByHooks.{calling_of}
use Rattle.moo_eval_hook.proofs.Moves.{refused_by_place, enters}
use Rattle.moo_eval_hook.proofs.moving.accept.Goals as goal

pub returns-then-not-may_enter : goal.returns-then-not-may_enter
returns-then-not-may_enter c =
    let f : SFits w32 c.args.active.now.programmer = search rules in
    let programmer = to_z-of_z w32 c.args.active.now.programmer f in
    λ k. refused_by_place (calling_of c.args.stack.now c.args.active.now) c.args.world.now c.args.what c.args.to c.args.answer (simp programmer at (sym c.may_enter.ensures ∙ c.if-not-may_enter.true))

pub returns : goal.returns
returns c =
    let f : SFits w32 c.args.active.now.programmer = search rules in
    let programmer = to_z-of_z w32 c.args.active.now.programmer f in
    let what = to_z-of_z w32 c.args.what c.ranges.what in
    let to = to_z-of_z w32 c.args.to c.ranges.to in
    λ k. enters (calling_of c.args.stack.now c.args.active.now) c.args.world.now c.args.what c.args.to c.args.answer _ (simp programmer at (sym c.may_enter.ensures ∙ c.if-not-may_enter.false)) (simp (what, to) at (c.move_object.ensures k))

use Rattle.std.proofs.Common.{◌∙◌, sym, rules, w32}
use mir.Val.{SFits}
use Rattle.std.proofs.lemmas.Int.{to_z-of_z}
use Rattle.moo_eval_hook.specs.SeenByHooks.{calling_of}
use Rattle.moo_eval_hook.proofs.Moves.{no_place, not_own, goes_nowhere, asks}
use Rattle.moo_eval_hook.proofs.moving.begin_move.Goals as goal

pub returns-then-not-is_place : goal.returns-then-not-is_place
returns-then-not-is_place c =
    let to = to_z-of_z w32 c.args.to c.ranges.to in
    λ k. no_place (calling_of c.args.stack.now c.args.active.now) c.args.world.now c.args.what c.args.to (simp to at (sym c.is_place.ensures ∙ c.if-not-is_place.true))

pub returns-then-not-may_own : goal.returns-then-not-may_own
returns-then-not-may_own c =
    let f : SFits w32 c.args.active.now.programmer = search rules in
    let programmer = to_z-of_z w32 c.args.active.now.programmer f in
    let what = to_z-of_z w32 c.args.what c.ranges.what in
    let to = to_z-of_z w32 c.args.to c.ranges.to in
    λ k. not_own (calling_of c.args.stack.now c.args.active.now) c.args.world.now c.args.what c.args.to (simp to at (sym c.is_place.ensures ∙ c.if-not-is_place.false)) (simp (programmer, what) at (sym c.may_own.ensures ∙ c.if-not-may_own.true))

pub returns-then-is_nowhere : goal.returns-then-is_nowhere
returns-then-is_nowhere c =
    let f : SFits w32 c.args.active.now.programmer = search rules in
    let programmer = to_z-of_z w32 c.args.active.now.programmer f in
    let what = to_z-of_z w32 c.args.what c.ranges.what in
    let to = to_z-of_z w32 c.args.to c.ranges.to in
    λ k. goes_nowhere (calling_of c.args.stack.now c.args.active.now) c.args.world.now c.args.what c.args.to _ (simp to at (sym c.is_place.ensures ∙ c.if-not-is_place.false)) (simp (programmer, what) at (sym c.may_own.ensures ∙ c.if-not-may_own.false)) (simp to at (sym c.is_nowhere.ensures ∙ c.if-is_nowhere.true)) (simp (what, to) at (c.move_object.ensures k))

pub returns : goal.returns
returns c =
    let f : SFits w32 c.args.active.now.programmer = search rules in
    let programmer = to_z-of_z w32 c.args.active.now.programmer f in
    let what = to_z-of_z w32 c.args.what c.ranges.what in
    let to = to_z-of_z w32 c.args.to c.ranges.to in
    λ k. asks (calling_of c.args.stack.now c.args.active.now) c.args.world.now c.args.what c.args.to _ (simp to at (sym c.is_place.ensures ∙ c.if-not-is_place.false)) (simp (programmer, what) at (sym c.may_own.ensures ∙ c.if-not-may_own.false)) (simp to at (sym c.is_nowhere.ensures ∙ c.if-is_nowhere.false)) (simp (what, to) at (c.call_verb.ensures k))

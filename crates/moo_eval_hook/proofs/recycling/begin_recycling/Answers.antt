use Rattle.std.proofs.Common.{◌∙◌, refl, sym, rules, w32}
use mir.Val.{SFits}
use Rattle.std.proofs.lemmas.Int.{to_z-of_z}
use Rattle.moo_eval_semantics.specs.Recycling.{recycling}
use Rattle.moo_eval_hook.proofs.recycling.begin_recycling.Goals as goal

pub returns-then-not-may_own : goal.returns-then-not-may_own
unfolding recycling
returns-then-not-may_own c =
    let f : SFits w32 c.args.active.now.programmer = search rules in
    let programmer = to_z-of_z w32 c.args.active.now.programmer f in
    let o = to_z-of_z w32 c.args.o c.ranges.o in
    let own = simp (programmer, o) at (sym c.may_own.ensures ∙ c.if-not-may_own.true) in
    λ k. rw own refl

pub returns : goal.returns
unfolding recycling
returns c =
    let f : SFits w32 c.args.active.now.programmer = search rules in
    let programmer = to_z-of_z w32 c.args.active.now.programmer f in
    let o = to_z-of_z w32 c.args.o c.ranges.o in
    let own = simp (programmer, o) at (sym c.may_own.ensures ∙ c.if-not-may_own.false) in
    λ k. rw own (simp o at (c.call_verb.ensures k))

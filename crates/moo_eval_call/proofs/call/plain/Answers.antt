use Rattle.std.proofs.Common.{rules, Ok, Err, refl, sym, w32}
use Rattle.std.proofs.lemmas.Int.{to_z-of_z}
use mir.Val.{SFits}
use Rattle.moo_value.specs.View.{tree}
use Rattle.moo_eval_call.proofs.call.plain.Goals as goal

pub returns-in-Value : goal.returns-in-Value
returns-in-Value c =
    let fits : SFits w32 c.args.active.now.programmer = search rules in
    let p = to_z-of_z w32 c.args.active.now.programmer fits in
    λ name ticks notices named k. (Ok (tree c.in-Value.value), c.outcome.new.world, rw p at (c.in-Value.ensures name named), refl, refl)

pub returns-in-Raise : goal.returns-in-Raise
returns-in-Raise c =
    let fits : SFits w32 c.args.active.now.programmer = search rules in
    let p = to_z-of_z w32 c.args.active.now.programmer fits in
    λ name ticks notices named k.
    let is = rw p at (c.in-Raise.ensures name named) in
    (Err (record { code = c.in-Raise.code; message = c.in-Raise.message; value = tree c.in-Raise.value }), c.outcome.new.world, is.0, sym (c.raised_here.ensures k), refl)

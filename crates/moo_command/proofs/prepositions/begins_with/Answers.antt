use Rattle.std.proofs.Common.{◌∙◌, sym, arith, map, drop}
use Rattle.std.proofs.lemmas.List.{length-map, length-drop}
use Rattle.moo_command.proofs.Splits.{begins_short}
use Rattle.moo_command.proofs.prepositions.begins_with.Goals as goal

pub returns-in_default : goal.returns-in_default
returns-in_default c =
    sym (
    c.loop-own.invariant
    ∙ begins_short (map (λ w. w.now) (drop c.loop-own.own-index c.args.form.now)) c.loop-own.left.now c.in_default.ensures.cases (
    omega (arith, length-map (drop c.loop-own.own-index c.args.form.now) (λ w. w.now), length-drop c.loop-own.own-index c.args.form.now)
    )
    )

use Rattle.std.proofs.Common.{◌≡◌, rules, w32, Some, arith}
use Rattle.std.specs.Prelude.{FitsSigned}
use Rattle.std.proofs.lemmas.Int.{to_z-of_z}
use Rattle.moo_builtin_operator.specs.Assignment.{ends}
use Rattle.moo_builtin_operator.proofs.Replaced.{range_taken}
use Rattle.moo_builtin_operator.proofs.assignment.takes_part.Goals as goal

pub returns : goal.returns
returns c =
    let low_fits : FitsSigned w32 c.args.low = search rules in
    let high_fits : FitsSigned w32 c.args.high = search rules in
    let found : Some (c.in-Some.front, c.in-Some.back) ≡ ends c.args.low c.args.high c.len.result = simp to_z-of_z at c.in-Some.ensures.value in
    λ taken. range_taken c.args.base.now c.args.value.now c.args.low c.args.high c.len.result c.in-Some.front c.in-Some.back c.len.ensures found
    (omega (arith, c.if-front-back.false))
    (omega (arith, c.weight.ensures.weight, c.weight-2.ensures.weight, c.if-weight-gt-WEIGHT_LIMIT.false))
    (omega (arith, c.weight.ensures.limits.depth, c.weight-2.ensures.limits.depth))

use Rattle.std.proofs.Common.{◌∙◌, ap, w32, rules}
use Rattle.std.specs.Prelude.{FitsSigned}
use Rattle.std.specs.Int.{int_wrapping_pow}
use Rattle.std.proofs.lemmas.Int.{to_z-of_z}
use Rattle.moo_builtin_operator.proofs.Wrapping.{wrapping_pow_is}
use Rattle.moo_builtin_operator.proofs.arithmetic.wrapped_power.Goals as goal

pub returns : goal.returns
returns c =
    let fits : FitsSigned w32 c.wrapping_pow.result = search rules in
    to_z-of_z w32 c.wrapping_pow.result fits
    ∙ c.wrapping_pow.ensures
    ∙ ap (λ a. int_wrapping_pow w32 a c.args.n) (to_z-of_z w32 c.args.a c.ranges.a)
    ∙ wrapping_pow_is c.args.a c.ranges.a c.args.n

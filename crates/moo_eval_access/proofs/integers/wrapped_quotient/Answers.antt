use Rattle.std.proofs.Common.{◌∙◌, ap, w32, rules, to_z, of_z}
use Rattle.std.specs.Prelude.{FitsSigned}
use Rattle.std.specs.Int.{int_wrapping_div}
use Rattle.std.proofs.lemmas.Int.{to_z-of_z}
use Rattle.moo_builtin_operator.proofs.Wrapping.{wrapping_div_is}
use Rattle.moo_eval_access.proofs.integers.wrapped_quotient.Goals as goal

pub returns : goal.returns
returns c =
    let fits : FitsSigned w32 c.wrapping_div.result = search rules in
    to_z-of_z w32 c.wrapping_div.result fits
    ∙ c.wrapping_div.ensures
    ∙ ap (λ a. int_wrapping_div w32 a (to_z w32 (of_z w32 c.args.b))) (to_z-of_z w32 c.args.a c.ranges.a)
    ∙ ap (λ b. int_wrapping_div w32 c.args.a b) (to_z-of_z w32 c.args.b c.ranges.b)
    ∙ wrapping_div_is c.args.a c.args.b c.ranges.a

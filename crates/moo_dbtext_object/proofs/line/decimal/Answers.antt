use Rattle.moo_dbtext_object.proofs.Naturals.{after_sign, signed_below}
use Rattle.moo_dbtext_object.proofs.line.decimal.Goals as goal

pub returns-in-Some : goal.returns-in-Some
returns-in-Some c =
    let line = c.args.line.now in
    signed_below line c.in-Some.digits.now c.below_zero.result (after_sign line c.strip_prefix.result c.in-Some.digits c.strip_prefix.ensures.cases c.in-Some.is) c.below_zero.ensures

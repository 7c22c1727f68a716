use Rattle.moo_dbtext_object.proofs.Naturals.{not_zero, below}
use Rattle.moo_dbtext_object.proofs.line.below_zero.Goals as goal

pub returns-then-number-eq0 : goal.returns-then-number-eq0
returns-then-number-eq0 c = λ n lt e. not_zero c.args.digits.now c.in_ok-number.number n lt e c.in_ok-number.ensures.1 c.if-number-eq0.true

pub returns : goal.returns
returns c =
    let spelled = c.in_ok-number.ensures in
    below c.args.digits.now c.in_ok-number.number c.try_from.result c.ok.result c.if-number-eq0.false spelled.0 spelled.1 c.try_from.ensures c.ok.ensures.value

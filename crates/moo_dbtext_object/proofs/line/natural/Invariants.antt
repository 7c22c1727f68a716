-- What the digits so far are.
use Rattle.moo_dbtext_object.proofs.Naturals.{AreRead}
use Rattle.moo_dbtext_object.proofs.line.natural.Given as goal

abbrev pub invariant-loop-digit : goal.invariant-loop-digit
invariant-loop-digit l = AreRead l.digits l.digit-index l.value

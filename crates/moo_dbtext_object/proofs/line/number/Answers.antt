use Rattle.std.proofs.lemmas.Int.{to_z-of_z}
use Rattle.moo_dbtext_object.proofs.LineLaws.{number_is}
use Rattle.moo_dbtext_object.proofs.line.number.Goals as goal

pub returns-in-Some-clause-gives : goal.returns-in-Some-clause-gives
returns-in-Some-clause-gives c = let h = c.in-Some.ensures in rw (to_z-of_z _ _ h.0) (number_is _ _ h.0 h.1)

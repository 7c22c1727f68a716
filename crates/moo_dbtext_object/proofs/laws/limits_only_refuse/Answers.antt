use Rattle.moo_dbtext_object.proofs.ObjectCut.{object_cut}
use Rattle.moo_dbtext_object.proofs.laws.limits_only_refuse.Goals as goal

pub returns : goal.returns
returns c = λ d line. object_cut d.awaited d line

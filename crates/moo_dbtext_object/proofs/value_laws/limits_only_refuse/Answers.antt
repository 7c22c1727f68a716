use Rattle.moo_dbtext_object.proofs.Cutting.{value_cut}
use Rattle.moo_dbtext_object.proofs.value_laws.limits_only_refuse.Goals as goal

pub returns : goal.returns
returns c = λ p line. value_cut p.expected p line

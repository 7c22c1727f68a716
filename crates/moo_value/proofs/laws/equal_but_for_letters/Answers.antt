use Rattle.moo_value.proofs.Equality.{equal_folded, folds_equal}
use Rattle.moo_value.proofs.laws.equal_but_for_letters.Goals as goal

pub returns : goal.returns
returns c = λ t u. (equal_folded t u, λ h. folds_equal h)

use Rattle.moo_syntax.proofs.OneLine.{one_line}
use Rattle.moo_syntax.proofs.laws.one_unexpected_line.Goals as goal

pub returns : goal.returns
returns c = λ names lines m n f g. one_line lines m n f g

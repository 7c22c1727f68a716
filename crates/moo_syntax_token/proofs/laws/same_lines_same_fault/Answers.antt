use Rattle.moo_syntax_token.proofs.Readings.{same_lines_same_fault}
use Rattle.moo_syntax_token.proofs.laws.same_lines_same_fault.Goals as goal

pub returns : goal.returns
returns c = same_lines_same_fault

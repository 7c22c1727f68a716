use Rattle.moo_session_line.proofs.Cutting.{lines_under_any_cutting}
use Rattle.moo_session_line.proofs.laws.lines_under_any_cutting.Goals as goal

pub returns : goal.returns
returns c = lines_under_any_cutting

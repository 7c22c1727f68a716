use Rattle.moo_session_line.proofs.Cutting.{one_reading}
use Rattle.moo_session_line.proofs.laws.one_reading.Goals as goal

pub returns : goal.returns
returns c = one_reading

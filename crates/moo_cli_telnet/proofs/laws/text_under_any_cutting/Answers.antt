use Rattle.moo_cli_telnet.proofs.Cutting.{cut}
use Rattle.moo_cli_telnet.proofs.laws.text_under_any_cutting.Goals as goal

pub returns : goal.returns
returns c = cut

use Rattle.moo_cli_script.proofs.Courses.{are_calls}
use Rattle.moo_cli_script.proofs.laws.lines_are_calls.Goals as goal

pub returns : goal.returns
returns g c start end lines text takes none = are_calls g.S.Application.layer lines start end text takes none

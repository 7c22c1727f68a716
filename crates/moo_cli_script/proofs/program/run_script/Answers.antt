use Rattle.moo_cli_script.proofs.Serving.{shows}
use Rattle.moo_cli_script.proofs.program.run_script.Goals as goal

pub returns : goal.returns
returns g c = shows g.S.Application.layer _ _ _ _ _ _ c.script_watched.result c.script_watched.ensures

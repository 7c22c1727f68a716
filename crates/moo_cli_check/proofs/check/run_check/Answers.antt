use Rattle.moo_cli_check.proofs.Shown.{shows}
use Rattle.moo_cli_check.proofs.check.run_check.Goals as goal

pub returns : goal.returns
returns g c = shows _ (g.I.Read.remaining c.args.input.now) (g.O.Write.contents c.args.output.now) (g.O.Write.contents c.check_watched.new.output) c.check_watched.new.watch c.check_watched.result c.check_watched.ensures

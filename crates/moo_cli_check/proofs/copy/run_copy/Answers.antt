use Rattle.moo_cli_check.proofs.Shown.{shows}
use Rattle.moo_cli_check.proofs.copy.run_copy.Goals as goal

pub returns : goal.returns
returns g c = shows _ (g.I.Read.remaining c.args.input.now) (g.O.Write.contents c.args.output.now) (g.O.Write.contents c.copy_watched.new.output) c.copy_watched.new.watch c.copy_watched.result c.copy_watched.ensures

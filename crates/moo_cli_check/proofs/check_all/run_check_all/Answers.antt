use Rattle.moo_cli_check.proofs.Answered.{shows}
use Rattle.moo_cli_check.proofs.check_all.run_check_all.Goals as goal

pub returns : goal.returns
returns g c = shows (g.I.Read.remaining c.args.input.now) (g.O.Write.contents c.args.output.now) (g.O.Write.contents c.check_all_watched.new.output) c.check_all_watched.new.watch c.check_all_watched.result c.check_all_watched.ensures

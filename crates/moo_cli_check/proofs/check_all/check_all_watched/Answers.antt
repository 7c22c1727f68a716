use Rattle.std.proofs.Common.{inr}
use Rattle.moo_cli_io.proofs.GivenUp.{given_up}
use Rattle.moo_cli_check.proofs.check_all.check_all_watched.Goals as goal

pub returns-in-Err : goal.returns-in-Err
returns-in-Err g c =
    inr (given_up (g.O.Write.contents c.args.output.now) (g.O.Write.contents c.surveyed.new.output) (g.O.Write.contents c.report_watched.new.output) c.surveyed.new.watch c.report_watched.new.watch c.in-Err.refusal c.report_watched.result
    c.in-Err.ensures.earned c.in-Err.ensures.silent c.report_watched.ensures.status c.report_watched.ensures.reported c.report_watched.ensures.remembers)

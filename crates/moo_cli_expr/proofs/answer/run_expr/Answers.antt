use Rattle.moo_cli_expr.proofs.Answered.{shows}
use Rattle.moo_cli_expr.proofs.answer.run_expr.Goals as goal

pub returns : goal.returns
returns g c = shows (g.I.Read.remaining c.args.input.now) (g.O.Write.contents c.args.output.now) (g.O.Write.contents c.expr_watched.new.output) c.expr_watched.new.watch c.expr_watched.result c.expr_watched.ensures

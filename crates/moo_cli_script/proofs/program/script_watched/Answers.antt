use Rattle.std.proofs.Common.{inl, inr}
use Rattle.moo_cli_script.proofs.Serving.{gives_up}
use Rattle.moo_cli_script.proofs.program.script_watched.Goals as goal

pub returns-in-Ok : goal.returns-in-Ok
returns-in-Ok g c = inl c.in-Ok.ensures.answered

pub returns-in-Err : goal.returns-in-Err
returns-in-Err g c =
    inr (gives_up (g.O.Write.contents c.args.output.now) (g.O.Write.contents c.serve.new.output) (g.O.Write.contents c.report_watched.new.output) c.serve.new.loading c.serve.new.watch
    c.report_watched.new.watch c.in-Err.refusal c.report_watched.result c.in-Err.ensures.earned c.in-Err.ensures.grown c.report_watched.ensures.remembers c.report_watched.ensures.status
    c.report_watched.ensures.reported)

use Rattle.std.proofs.lemmas.Result.{IfOk-weaker}
use Rattle.moo_cli_script.specs.ScriptLines.{Asks, step}
use Rattle.moo_cli_script.proofs.Played.{at_some, next_of}
use Rattle.moo_cli_script.proofs.playing.play_line.Goals as goal

pub returns-clause-next : goal.returns-clause-next
returns-clause-next g c =
    let asks = at_some c.in-Ok.read c.in-Some.asked _ (λ asked. Asks c.args.line.now (step asked)) c.in-Some.is c.in-Ok.ensures in
    IfOk-weaker c.play_work.result _ _ (λ next done. next_of g.S.Application.layer c.args.script c.in-Ok-work_of.work c.args.line.now (step c.in-Some.asked)
    (g.O.Write.contents c.args.output.now) (g.O.Write.contents c.play_work.new.output) next c.in-Ok-work_of.ensures asks done) c.play_work.ensures.next

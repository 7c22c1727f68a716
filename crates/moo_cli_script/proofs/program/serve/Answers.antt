use Rattle.std.proofs.lemmas.Result.{IfOk-weaker}
use Rattle.std.proofs.KnownBytes.{Appends-nil}
use Rattle.moo_cli_script.proofs.Growing.{any_err, err_weaker, grown_more, grown_silent, not_grown}
use Rattle.moo_cli_script.proofs.Serving.{held, not_served, nothing_printed, served}
use Rattle.moo_cli_script.proofs.program.serve.Goals as goal

pub returns-in_ok-hand_out-in-Ok-clause-answered : goal.returns-in_ok-hand_out-in-Ok-clause-answered
returns-in_ok-hand_out-in-Ok-clause-answered g c =
    let l = g.S.Application.layer in
    let holds = held c.in_ok-text.text.items c.new-disk.result c.new.result c.new-disk.ensures.inner c.new.ensures.images c.new.ensures.main c.new-disk.ensures.left in
    let handed = c.in_ok-hand_out-in-Ok.ensures in
    IfOk-weaker c.play.result _ _ (λ status plays. served l (g.F.Read.remaining c.args.database.now) (g.I.Read.remaining c.args.input.now) (g.O.Write.contents c.args.output.now)
    (g.O.Write.contents c.hand_out.new.output) (g.O.Write.contents c.play.new.output) c.in_ok-text.text.items c.new-disk.result c.in-Ok.script c.hand_out.new.self status
    c.in_ok-text.ensures.text holds c.in-Ok.ensures.opens handed.handed
    (nothing_printed l c.in-Ok.script _ _ c.in-Ok.ensures.opens.top handed.text) plays) c.play.ensures.plays

pub returns-in-Err-clause-answered : goal.returns-in-Err-clause-answered
returns-in-Err-clause-answered g c =
    let l = g.S.Application.layer in
    let holds = held c.in_ok-text.text.items c.new-disk.result c.new.result c.new-disk.ensures.inner c.new.ensures.images c.new.ensures.main c.new-disk.ensures.left in
    IfOk-weaker c.report_opening.result _ _ (λ status told. not_served l (g.F.Read.remaining c.args.database.now) (g.I.Read.remaining c.args.input.now) (g.O.Write.contents c.args.output.now)
    (g.O.Write.contents c.report_opening.new.output) c.in_ok-text.text.items c.new-disk.result c.in-Err.fault status c.in_ok-text.ensures.text holds c.in-Err.ensures.refused told.0 told.1)
    c.report_opening.ensures.reported

pub returns-in_err-text-clause-grown : goal.returns-in_err-text-clause-grown
returns-in_err-text-clause-grown g c = any_err c.from_residual.result _ (not_grown c.args.watch.now (g.O.Write.contents c.args.output.now))

pub returns-in_ok-hand_out-in-Ok-clause-grown : goal.returns-in_ok-hand_out-in-Ok-clause-grown
returns-in_ok-hand_out-in-Ok-clause-grown g c =
    let old = g.O.Write.contents c.args.output.now in
    let mid = g.O.Write.contents c.hand_out.new.output in
    let none = nothing_printed g.S.Application.layer c.in-Ok.script old mid c.in-Ok.ensures.opens.top c.in_ok-hand_out-in-Ok.ensures.text in
    err_weaker c.play.result _ _ (grown_more c.play.new.watch old mid (g.O.Write.contents c.play.new.output) _ none) c.play.ensures.grown

pub returns-in-Err-clause-grown : goal.returns-in-Err-clause-grown
returns-in-Err-clause-grown g c =
    let old = g.O.Write.contents c.args.output.now in
    err_weaker c.report_opening.result _ _ (grown_silent c.report_opening.new.watch old old (g.O.Write.contents c.report_opening.new.output) _ (Appends-nil old)) c.report_opening.ensures.silent

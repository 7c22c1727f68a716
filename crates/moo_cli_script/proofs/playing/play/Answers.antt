use Rattle.std.proofs.Common.{arith, inr, refl}
use Rattle.std.proofs.lemmas.Result.{IfOk-weaker}
use Rattle.std.specs.Io.KnownBytes.{IsAtEnd}
use Rattle.moo_cli_script.specs.Lines.{TakesLine}
use Rattle.moo_cli_script.proofs.Growing.{any_err, err_weaker, grown_silent}
use Rattle.moo_cli_script.proofs.Played.{all_played, at_none, at_some, ended_at, none_played, still_at, went_on}
use Rattle.moo_cli_script.proofs.playing.play.Goals as goal

pub loop-script-init : goal.loop-script-init
loop-script-init g c = record {
  fits = c.requires;
  played = none_played g.S.Application.layer c.args.script (g.I.Read.remaining c.args.input.now) (g.O.Write.contents c.args.output.now);
  fewer = omega arith;
}

pub loop-script-preserved : goal.loop-script-preserved
loop-script-preserved g c =
    let before = g.I.Read.remaining c.loop-script.input in
    let following = g.I.Read.remaining c.next_line.new.input in
    let takes = at_some c.in_ok-line.field-0 c.in-Some.line _ (λ line. TakesLine before following line.items) c.in-Some.is c.in_ok-line.ensures.line in
    let on = went_on g.S.Application.layer c.args.script c.loop-script.script c.in-Goes.next c.loop-script.number c.in-Some.line.items c.as_slice.result.now c.in_ok-next.field-0
    (g.I.Read.remaining c.args.input.now) before following (g.O.Write.contents c.args.output.now) (g.O.Write.contents c.loop-script.output) (g.O.Write.contents c.play_line.new.output)
    c.loop-script.invariant.played takes c.as_slice.ensures.value c.in-Goes.is c.in_ok-next.ensures.next in
    record {
      fits = on.0;
      played = on.1;
      fewer = omega (arith, c.loop-script.invariant.fewer, c.in_ok-line.ensures.count.0, c.play_line.ensures.counted);
    }

pub returns-in-Stops-clause-plays : goal.returns-in-Stops-clause-plays
returns-in-Stops-clause-plays g c =
    let before = g.I.Read.remaining c.loop-script.input in
    let following = g.I.Read.remaining c.next_line.new.input in
    let takes = at_some c.in_ok-line.field-0 c.in-Some.line _ (λ line. TakesLine before following line.items) c.in-Some.is c.in_ok-line.ensures.line in
    IfOk-weaker c.report_stop.result _ _ (λ status told. ended_at g.S.Application.layer c.args.script c.loop-script.script c.loop-script.number c.in-Some.line.items c.as_slice.result.now
    c.in-Stops.stop c.in_ok-next.field-0 (g.I.Read.remaining c.args.input.now) before following (g.O.Write.contents c.args.output.now) (g.O.Write.contents c.loop-script.output)
    (g.O.Write.contents c.play_line.new.output) (g.O.Write.contents c.report_stop.new.output) status c.loop-script.invariant.played takes c.as_slice.ensures.value c.in-Stops.is
    c.in_ok-next.ensures.next told) c.report_stop.ensures.reported

pub returns-clause-plays : goal.returns-clause-plays
returns-clause-plays g c =
    let end = at_none c.in_ok-line.field-0 (IsAtEnd (g.I.Read.remaining c.loop-script.input)) _ c.in_default.not-Some c.in_ok-line.ensures.line in
    all_played g.S.Application.layer c.args.script c.loop-script.script c.loop-script.number (g.I.Read.remaining c.args.input.now) (g.I.Read.remaining c.loop-script.input)
    (g.O.Write.contents c.args.output.now) (g.O.Write.contents c.loop-script.output) 0 c.loop-script.invariant.played end refl

pub returns-in_err-line-clause-grown : goal.returns-in_err-line-clause-grown
returns-in_err-line-clause-grown g c =
    any_err c.from_residual.result _ (inr (c.loop-script.invariant.played.own, c.loop-script.invariant.played.grown))

pub returns-in_err-next-clause-grown : goal.returns-in_err-next-clause-grown
returns-in_err-next-clause-grown g c =
    any_err c.from_residual-in_err-next.result _ (grown_silent c.play_line.new.watch (g.O.Write.contents c.args.output.now) (g.O.Write.contents c.loop-script.output)
    (g.O.Write.contents c.play_line.new.output) _ c.loop-script.invariant.played.grown c.in_err-next.ensures.silent)

pub returns-in-Stops-clause-grown : goal.returns-in-Stops-clause-grown
returns-in-Stops-clause-grown g c =
    let old = g.O.Write.contents c.args.output.now in
    let mid = g.O.Write.contents c.loop-script.output in
    let still = still_at g.S.Application.layer c.loop-script.script c.as_slice.result.now c.in-Stops.stop c.in_ok-next.field-0 old mid (g.O.Write.contents c.play_line.new.output) _
    c.loop-script.invariant.played.grown c.in-Stops.is c.in_ok-next.ensures.next in
    err_weaker c.report_stop.result _ _ (grown_silent c.report_stop.new.watch old (g.O.Write.contents c.play_line.new.output) (g.O.Write.contents c.report_stop.new.output) _ still)
    c.report_stop.ensures.silent

use Rattle.std.proofs.lemmas.Result.{err_from_is_err_and}
use Rattle.moo_dbtext_record.specs.Cutting.{last_part}
use Rattle.moo_dbtext_record.proofs.CuttingLaws.{line_then, line_stops}
use Rattle.moo_dbtext_record.proofs.line_sink.feed_lines.Goals as goal

pub loop-size-preserved : goal.loop-size-preserved
loop-size-preserved g c = λ t result fed.
    c.loop-size.invariant t result (line_then g.S.LineSink.takes _ _ t c.loop-size.more.now c.in-Some.size result c.in-Some.ensures.2 c.in_ok-take_line.ensures fed)

pub returns-in_err-take_line : goal.returns-in_err-take_line
returns-in_err-take_line g c =
    let p = err_from_is_err_and c.from_residual.result c.from_residual.ensures.1 in
    rw (p.1, p.2) (c.loop-size.invariant _ _ (line_stops g.S.LineSink.takes _ _ c.loop-size.more.now c.in-Some.size _ c.in-Some.ensures.2 c.in_err-take_line.ensures))

pub returns : goal.returns
returns g c = c.loop-size.invariant _ _ (last_part c.in_default.ensures c.take_part.ensures)

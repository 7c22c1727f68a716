use Rattle.std.proofs.Common.{length}
use Rattle.moo_dbtext_record.specs.Cutting.{Feeds}
use Rattle.moo_dbtext_record.proofs.line_sink.feed_lines.Given as goal

abbrev pub invariant-loop-size : goal.invariant-loop-size
invariant-loop-size g l = (t : _) (result : _) → Feeds g.S.LineSink.takes l.sink l.more result t → Feeds g.S.LineSink.takes l.initial.sink l.initial.piece result t

abbrev pub decreases-loop-size : goal.decreases-loop-size
decreases-loop-size g l = length l.more

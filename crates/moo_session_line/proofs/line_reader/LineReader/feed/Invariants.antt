use Rattle.std.proofs.Common.{length}
use Rattle.moo_session_line.proofs.Streams.{held}
use Rattle.moo_session_line.proofs.Pieces.{IsRead}
use Rattle.moo_session_line.proofs.line_reader.LineReader.feed.Given as goal

abbrev pub invariant-loop-end : goal.invariant-loop-end
invariant-loop-end l = IsRead (held l.self-inside.line.items l.self-inside.after_return) l.piece l.lines.items l.line.items l.after_return l.left

abbrev pub decreases-loop-end : goal.decreases-loop-end
decreases-loop-end l = length l.left

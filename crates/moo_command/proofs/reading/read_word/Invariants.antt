use Rattle.std.proofs.Common.{◌-◌, length}
use Rattle.moo_command.proofs.Going.{IsGoing}
use Rattle.moo_command.proofs.reading.read_word.Given as goal

abbrev pub invariant-loop-following : goal.invariant-loop-following
invariant-loop-following l = IsGoing l.line l.at l.following l.grouped l.word.items

abbrev pub decreases-loop-following : goal.decreases-loop-following
decreases-loop-following l = length l.line - l.following

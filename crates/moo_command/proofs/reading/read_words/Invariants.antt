use Rattle.std.proofs.Common.{◌-◌, length}
use Rattle.moo_command.proofs.Going.{IsListing}
use Rattle.moo_command.proofs.reading.read_words.Given as goal

abbrev pub invariant-loop-at : goal.invariant-loop-at
invariant-loop-at l = IsListing l.line l.«from» l.at l.words.items

abbrev pub decreases-loop-at : goal.decreases-loop-at
decreases-loop-at l = length l.line - l.at

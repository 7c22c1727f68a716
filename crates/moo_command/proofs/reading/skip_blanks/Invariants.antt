use Rattle.std.proofs.Common.{◌≡◌, ◌≤◌, ◌-◌, length, drop}
use Rattle.moo_command.specs.FirstWord.{unindented}
use Rattle.moo_command.proofs.reading.skip_blanks.Given as goal

abbrev pub invariant-loop-at : goal.invariant-loop-at
invariant-loop-at l = record { begins : l.«from» ≤ l.at; inside : l.at ≤ length l.line; rest : unindented (drop l.at l.line) ≡ unindented (drop l.«from» l.line) }

abbrev pub decreases-loop-at : goal.decreases-loop-at
decreases-loop-at l = length l.line - l.at

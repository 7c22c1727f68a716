use Rattle.moo_command.proofs.Splits.{NoneBefore}
use Rattle.moo_command.proofs.splitting.split.Given as goal

abbrev pub invariant-loop-at : goal.invariant-loop-at
invariant-loop-at l = NoneBefore l.words l.at

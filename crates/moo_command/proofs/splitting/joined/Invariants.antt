use Rattle.std.proofs.Common.{drop}
use Rattle.moo_command.proofs.Joining.{IsJoining}
use Rattle.moo_command.proofs.splitting.joined.Given as goal

abbrev pub invariant-loop-word : goal.invariant-loop-word
invariant-loop-word l = IsJoining l.words (drop l.word-index l.others) l.text.items

use Rattle.std.proofs.Common.{length, ◌-◌}
use Rattle.moo_syntax_token.proofs.Strings.{HasRead}
use Rattle.moo_syntax_token.proofs.Parts.{IsKept}
use Rattle.moo_syntax_token.proofs.scan.unescaped.Given as goal

abbrev pub invariant-loop-index : goal.invariant-loop-index
invariant-loop-index l = HasRead l.bytes l.text.items l.index l.taken × IsKept l.text.items l.index

abbrev pub decreases-loop-index : goal.decreases-loop-index
decreases-loop-index l = length l.bytes - l.index

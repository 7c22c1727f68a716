use Rattle.std.proofs.Common.{false, take}
use Rattle.moo_syntax_token.proofs.Strings.{HasRead}
use Rattle.moo_syntax_token.proofs.scan.plain_length.Given as goal

abbrev pub invariant-loop-index : goal.invariant-loop-index
invariant-loop-index l = HasRead l.bytes (take l.index l.bytes) l.index false

use Rattle.moo_cli_script.proofs.Numbers.{IsReadSoFar}
use Rattle.moo_cli_script.proofs.number.number.Given as goal

abbrev pub invariant-loop-byte : goal.invariant-loop-byte
invariant-loop-byte l = IsReadSoFar l.most l.digits l.byte-index l.value

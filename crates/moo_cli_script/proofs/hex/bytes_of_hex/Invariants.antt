use Rattle.std.proofs.Common.{◌*◌, drop}
use Rattle.moo_cli_script.proofs.Hexes.{IsReadHex}
use Rattle.moo_cli_script.proofs.hex.bytes_of_hex.Given as goal

abbrev pub invariant-loop-i : goal.invariant-loop-i
invariant-loop-i l = IsReadHex l.digits (drop (2 * l.i) l.digits) l.bytes.items

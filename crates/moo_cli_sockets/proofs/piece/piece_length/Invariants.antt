use Rattle.std.proofs.Common.{◌<◌, ◌≤◌, take, count_by}
use Rattle.moo_cli_sockets.specs.Waiting.{is_end}
use Rattle.moo_cli_sockets.proofs.piece.piece_length.Given as goal

abbrev pub invariant-loop-index : goal.invariant-loop-index
invariant-loop-index l = (count_by is_end (take l.index l.bytes) ≤ l.ends) × (l.ends < 128)

use Rattle.std.proofs.Common.{◌≡◌, take}
use Rattle.moo_session_line.proofs.Streams.{line_with}
use Rattle.moo_session_line.proofs.line_reader.keep.Given as goal

abbrev pub invariant-loop-byte : goal.invariant-loop-byte
invariant-loop-byte l = l.line.items ≡ line_with l.initial.line.items (take l.byte-index l.bytes)

use Rattle.std.proofs.Common.{◌≡◌, ◌≤◌, ◌++◌, drop, length}
use Rattle.moo_cli_telnet.specs.Commands.{state_after, text_from}
use Rattle.moo_cli_telnet.proofs.filter.Telnet.text.Given as goal

abbrev pub invariant-loop-byte : goal.invariant-loop-byte
invariant-loop-byte l =
    (l.text.items ++ text_from l.self.state (drop l.byte-index l.piece) ≡ text_from l.initial.self.state l.piece)
    × (state_after l.self.state (drop l.byte-index l.piece) ≡ state_after l.initial.self.state l.piece)
    × (length l.text.items ≤ l.byte-index)

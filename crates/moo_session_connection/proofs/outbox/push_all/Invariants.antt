use Rattle.std.proofs.Common.{◌≡◌, ◌≤◌, ◌++◌, drop, take, length}
use Rattle.moo_session_connection.proofs.outbox.push_all.Given as goal

abbrev pub invariant-loop-line : goal.invariant-loop-line
invariant-loop-line l =
    (l.log.items ++ drop l.line-index l.lines ≡ l.initial.log.items ++ l.lines)
    × (length l.initial.log.items ≤ length l.log.items)
    × (take (length l.initial.log.items) l.log.items ≡ l.initial.log.items)

use Rattle.std.proofs.Common.{◌≡◌, ℕ, ◌+◌, ◌-◌, length, get_or}
use Rattle.moo_session_connection.specs.Outbox.{no_bytes}
use Rattle.moo_session_connection.proofs.row.grow.Given as goal

abbrev pub invariant-loop-alloc : goal.invariant-loop-alloc
invariant-loop-alloc l = (c : ℕ) → get_or l.rows.items c no_bytes ≡ get_or l.initial.rows.items c no_bytes

abbrev pub decreases-loop-alloc : goal.decreases-loop-alloc
decreases-loop-alloc l = l.number + 1 - length l.rows.items

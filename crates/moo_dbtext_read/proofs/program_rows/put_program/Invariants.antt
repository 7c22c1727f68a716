use Rattle.std.proofs.Common.{◌≡◌, ℕ, ◌+◌, ◌-◌, length}
use Rattle.moo_dbtext_record.specs.Programs.{entry_at}
use Rattle.moo_dbtext_read.specs.Says.{programs_of}
use Rattle.moo_dbtext_read.proofs.program_rows.put_program.Given as goal

abbrev pub invariant-loop-alloc : goal.invariant-loop-alloc
invariant-loop-alloc l = (o v : ℕ) → entry_at (programs_of l.rows) o v ≡ entry_at (programs_of l.fn.rows) o v

abbrev pub decreases-loop-alloc : goal.decreases-loop-alloc
decreases-loop-alloc l = l.object + 1 - length l.rows.items

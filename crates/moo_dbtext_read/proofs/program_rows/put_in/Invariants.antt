use Rattle.std.proofs.Common.{◌≡◌, ℕ, ◌+◌, ◌-◌, length, None}
use Rattle.std.specs.Prelude.{slice_index_or}
use Rattle.moo_dbtext_read.proofs.program_rows.put_in.Given as goal

abbrev pub invariant-loop-row : goal.invariant-loop-row
invariant-loop-row l = (v : ℕ) → slice_index_or l.row.items v None ≡ slice_index_or l.fn.row.items v None

abbrev pub decreases-loop-row : goal.decreases-loop-row
decreases-loop-row l = l.verb + 1 - length l.row.items

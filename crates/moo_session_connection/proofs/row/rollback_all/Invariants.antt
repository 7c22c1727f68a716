use Rattle.std.proofs.Common.{◌≡◌, drop}
use Rattle.moo_session_connection.specs.Rows.{rolled_back, all_changed}
use Rattle.moo_session_connection.proofs.row.rollback_all.Given as goal

abbrev pub invariant-loop-number : goal.invariant-loop-number
invariant-loop-number l = all_changed rolled_back (drop l.number-index l.numbers) l.rows.items ≡ all_changed rolled_back l.numbers l.initial.rows.items

use Rattle.std.proofs.Common.{◌≡◌, drop}
use Rattle.moo_session_connection.specs.Rows.{committed, all_changed}
use Rattle.moo_session_connection.proofs.row.commit_all.Given as goal

abbrev pub invariant-loop-number : goal.invariant-loop-number
invariant-loop-number l = all_changed committed (drop l.number-index l.numbers) l.rows.items ≡ all_changed committed l.numbers l.initial.rows.items

-- The cells so far are for the nearest definitions.
use Rattle.std.proofs.Common.{◌≡◌, map, take}
use Rattle.moo_world_table.specs.Restoring.{rekeyed}
use Rattle.moo_dbtext_restore.specs.Plain.{plain_cell, keys_on}
use Rattle.moo_dbtext_restore.proofs.rows.make_row.Given as goal

abbrev pub invariant-loop-i : goal.invariant-loop-i
invariant-loop-i l = l.row.items ≡ rekeyed (take l.i (keys_on l.way)) (map plain_cell (take l.i l.cells))

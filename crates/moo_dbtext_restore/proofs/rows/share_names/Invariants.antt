-- The names so far are shared.
use Rattle.std.proofs.Common.{◌≡◌, take}
use Rattle.moo_dbtext_restore.proofs.rows.share_names.Given as goal

abbrev pub invariant-loop-name : goal.invariant-loop-name
invariant-loop-name l = l.all.items ≡ take l.name-index l.names

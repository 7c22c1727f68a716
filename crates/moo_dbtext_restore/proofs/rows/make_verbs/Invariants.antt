-- The verbs so far are made.
use Rattle.std.proofs.Common.{◌≡◌, take}
use Rattle.moo_dbtext_restore.specs.Plain.{plain_verbs}
use Rattle.moo_dbtext_restore.proofs.rows.make_verbs.Given as goal

abbrev pub invariant-loop-i : goal.invariant-loop-i
invariant-loop-i l = l.made.items ≡ plain_verbs (take l.i l.verbs) l.programs

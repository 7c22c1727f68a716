-- The names before are forgotten.
use Rattle.std.proofs.Common.{ℕ, List, ◌++◌, drop}
use Rattle.moo_dbtext_restore.specs.Names.{AreMet}
use Rattle.moo_dbtext_restore.proofs.names.forget_all.Given as goal

abbrev pub invariant-loop-name : goal.invariant-loop-name
invariant-loop-name l = (above : List (List ℕ)) → AreMet l.fn.met l.fn.fresh.items (l.names ++ above) → AreMet l.met l.fresh.items (drop l.name-index l.names ++ above)

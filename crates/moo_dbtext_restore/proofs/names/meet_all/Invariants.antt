-- The names from i on are met.
use Rattle.std.proofs.Common.{◌≡◌, ℕ, List, ◌++◌, drop}
use Rattle.moo_dbtext_restore.specs.Names.{AreMet, clashes_with}
use Rattle.moo_dbtext_restore.proofs.names.meet_all.Given as goal

abbrev pub invariant-loop-i : goal.invariant-loop-i
invariant-loop-i l = (above : List (List ℕ)) → AreMet l.fn.met l.fn.fresh.items above →
    (l.clash ≡ clashes_with (drop l.i l.names) above) × AreMet l.met l.fresh.items (drop l.i l.names ++ above)

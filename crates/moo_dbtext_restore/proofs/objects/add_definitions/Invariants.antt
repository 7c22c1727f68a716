-- The definitions from i on are on the way.
use Rattle.std.proofs.Common.{◌≡◌, ◌++◌, map, drop}
use Rattle.moo_value.specs.Compare.{folded}
use Rattle.moo_dbtext_restore.specs.Plain.{keys_on}
use Rattle.moo_dbtext_restore.proofs.objects.add_definitions.Given as goal

abbrev pub invariant-loop-i : goal.invariant-loop-i
invariant-loop-i l = keys_on l.way.items ≡ map (λ name. (l.x, folded name)) (drop l.i l.names) ++ keys_on l.fn.way.items

-- The definitions before are off the way.
use Rattle.std.proofs.Common.{◌≡◌, ◌++◌, List, map, drop}
use Rattle.moo_value.specs.Compare.{folded}
use Rattle.moo_world_object.specs.Cells.{Key}
use Rattle.moo_dbtext_restore.specs.Plain.{keys_on}
use Rattle.moo_dbtext_restore.proofs.objects.drop_definitions.Given as goal

abbrev pub invariant-loop : goal.invariant-loop
invariant-loop l = (above : List Key) → keys_on l.fn.way.items ≡ map (λ name. (l.x, folded name)) l.names ++ above →
    keys_on l.way.items ≡ map (λ name. (l.x, folded name)) (drop l.index l.names) ++ above

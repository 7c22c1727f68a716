-- The rows so far are of the objects before.
use Rattle.std.proofs.Common.{◌≡◌, map, take}
use Rattle.std.specs.Option.{option_map}
use Rattle.moo_value.specs.Compare.{folded}
use Rattle.moo_dbtext_object.specs.Objects.{object_of}
use Rattle.moo_dbtext_restore.specs.Records.{names_in}
use Rattle.moo_dbtext_restore.specs.Names.{rows_of}
use Rattle.moo_dbtext_restore.proofs.names.folded_rows.Given as goal

abbrev pub invariant-loop-object : goal.invariant-loop-object
invariant-loop-object l = rows_of l.rows.items ≡ map (λ o. map folded (names_in o)) (map (option_map object_of) (take l.object-index l.objects))

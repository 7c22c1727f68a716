use Rattle.std.proofs.Common.{◌≡◌, map, take}
use Rattle.std.specs.Option.{option_map}
use Rattle.moo_dbtext_object.specs.Objects.{object_of}
use Rattle.moo_dbtext_restore.specs.Records.{place_links_of}
use Rattle.moo_dbtext_restore.proofs.records.place_links.Given as goal

abbrev pub invariant-loop-object : goal.invariant-loop-object
invariant-loop-object l = l.links.items ≡ place_links_of (map (option_map object_of) (take l.object-index l.objects))

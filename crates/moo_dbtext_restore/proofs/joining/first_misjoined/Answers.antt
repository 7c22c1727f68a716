use Rattle.std.proofs.Common.{◌≡◌, length, map}
use Rattle.std.proofs.lemmas.List.{length-map}
use Rattle.std.specs.Option.{option_map}
use Rattle.moo_dbtext_object.specs.Objects.{object_of}
use Rattle.moo_dbtext_restore.specs.Records.{parent_links_of, place_links_of}
use Rattle.moo_dbtext_restore.proofs.Joined.{first_in_both}
use Rattle.moo_dbtext_restore.proofs.joining.first_misjoined.Goals as goal

pub returns : goal.returns
returns c =
    let objects = map (option_map object_of) c.args.objects.now in
    let parents : c.deref.result.now ≡ parent_links_of (map (option_map object_of) c.args.objects.now) = cc (c.deref.ensures.value, c.in_ok-parents.ensures) in
    let places : c.deref-2.result.now ≡ place_links_of (map (option_map object_of) c.args.objects.now) = cc (c.deref-2.ensures.value, c.in_ok-places.ensures) in
    rw c.least_of.ensures
    (first_in_both objects (length c.args.objects.now) c.deref.result.now c.deref-2.result.now c.in_ok-in_parents.in_parents c.in_ok-in_places.in_places
    (length-map c.args.objects.now (option_map object_of)) parents places c.in_ok-in_parents.ensures c.in_ok-in_places.ensures)

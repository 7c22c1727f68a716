use Rattle.std.proofs.Common.{List, None, map, sym, ◌∙◌, ap, slice_get}
use Rattle.std.proofs.lemmas.List.{get_or_read}
use Rattle.std.specs.Option.{unwrap_or}
use Rattle.moo_value.specs.Compare.{folded}
use Rattle.moo_world_object.specs.Cells.{Cell, Key, key_of}
use Rattle.moo_world_table.specs.World.{nothing, has_twice}
use Rattle.moo_world_table.specs.Properties.{distance_of}
use Rattle.moo_world_table.proofs.Distances.{names_once, same_values}
use Rattle.moo_world_table.proofs.written.nearest_written.Goals as goal

pub distance_of-distance-requires : goal.distance_of-distance-requires
distance_of-distance-requires c =
    let here = get_or_read c.args.objects.now c.args.x c.index-objects-x.result c.requires.first c.index-objects-x.is None in
    let cells = c.cells_in.ensures ∙ ap (λ o. (unwrap_or o nothing).cells) here in
    ap (λ (cs : List Cell). has_twice (map (λ (k : Key). k.1) (map key_of cs))) cells ∙ names_once c.args.objects.now c.args.parents.now c.requires.stocked c.is_forest.ensures c.args.x

pub returns : goal.returns
returns c =
    let k : Key = (c.args.definer, folded c.args.name.now) in
    let here = get_or_read c.args.objects.now c.args.x c.index-objects-x.result c.requires.first c.index-objects-x.is None in
    let cells = c.cells_in.ensures ∙ ap (λ o. (unwrap_or o nothing).cells) here in
    let distance = c.distance_of-distance.ensures ∙ ap (distance_of k) cells in
    c.nearest_from_end.ensures ∙ ap (λ vs. slice_get vs 0) (sym (same_values c.args.objects.now c.args.parents.now c.requires.stocked c.is_forest.ensures k c.args.x c.distance_of-distance.result distance))

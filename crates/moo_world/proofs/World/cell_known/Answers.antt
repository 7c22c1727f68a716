use Rattle.std.proofs.Common.{◌≡◌, false, sym, ◌∙◌, ap, subst, IsSome, map}
use Rattle.moo_value.specs.Compare.{folded}
use Rattle.moo_world_object.specs.Cells.{Key, cell_named, key_of}
use Rattle.moo_world_object.specs.Objects.{Object}
use Rattle.moo_world_table.specs.World.{World, object_of, thing_of, has_twice}
use Rattle.moo_world_table.proofs.VerbChanges.{thing_read}
use Rattle.moo_world_table.proofs.Once.{place_found}
use Rattle.moo_world.proofs.ByRight.{placed_cell}
use Rattle.moo_world.proofs.World.cell_known.Goals as goal

pub returns : goal.returns
returns c =
    let w : World = record { objects = c.self.inside.objects.items; inheritance = c.self.inside.inheritance; containment = c.self.inside.containment; players = c.self.inside.players.items } in
    let valid = subst (λ v. IsSome (object_of v.objects c.args.x)) (sym c.self.view_is) c.requires in
    let thing = thing_read w.objects c.args.x c.index.result.now valid c.index.ensures in
    let same = c.cells_in-cells.ensures ∙ ap (λ (o : Object). o.cells) thing ∙ ap (λ v. (thing_of v.objects c.args.x).cells) c.self.view_is in
    let name = folded c.args.name.now in
    let cells = c.cells_in-cells.result.now in
    let place = c.in_ok-place.place in
    let stocked = c.is_well_formed.ensures.stocked in
    let once : has_twice (map (λ (k : Key). k.1) (map key_of cells)) ≡ false =
    ap (λ cs. has_twice (map (λ (k : Key). k.1) (map key_of cs))) same ∙ ap (λ ks. has_twice (map (λ (k : Key). k.1) ks)) (stocked.exact_cells c.args.x) ∙ stocked.names_once c.args.x in
    let at = place_found name cells place once c.in_ok-place.ensures.0 c.in_ok-place.ensures.1 in
    ap (λ cs. cell_named cs name) (sym same) ∙ placed_cell name cells place c.index-cells-place.result (sym at) c.index-cells-place.is

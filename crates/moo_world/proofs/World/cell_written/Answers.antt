use Rattle.std.proofs.Common.{sym, ◌∙◌, ap, subst, IsSome}
use Rattle.moo_value.specs.Compare.{folded}
use Rattle.moo_world_object.specs.Cells.{cell_named, is_named}
use Rattle.moo_world_object.specs.Objects.{Object}
use Rattle.moo_world_table.specs.World.{World, object_of, thing_of}
use Rattle.moo_world_table.proofs.VerbChanges.{thing_read}
use Rattle.moo_world.proofs.ByRight.{placed_cell, unplaced}
use Rattle.moo_world.proofs.World.cell_written.Goals as goal

pub returns-in-Some : goal.returns-in-Some
returns-in-Some c =
    let w : World = record { objects = c.self.inside.objects.items; inheritance = c.self.inside.inheritance; containment = c.self.inside.containment; players = c.self.inside.players.items } in
    let valid = subst (λ v. IsSome (object_of v.objects c.args.x)) (sym c.self.view_is) c.requires in
    let thing = thing_read w.objects c.args.x c.index.result.now valid c.index.ensures in
    let same = c.cells_in-cells.ensures ∙ ap (λ (o : Object). o.cells) thing ∙ ap (λ v. (thing_of v.objects c.args.x).cells) c.self.view_is in
    sym (placed_cell (folded c.args.name.now) c.cells_in-cells.result.now c.in-Some.place c.index-cells-place.result (sym c.in-Some.ensures) c.index-cells-place.is) ∙ ap (λ cs. cell_named cs (folded c.args.name.now)) same

pub returns-in-None : goal.returns-in-None
returns-in-None c =
    let w : World = record { objects = c.self.inside.objects.items; inheritance = c.self.inside.inheritance; containment = c.self.inside.containment; players = c.self.inside.players.items } in
    let valid = subst (λ v. IsSome (object_of v.objects c.args.x)) (sym c.self.view_is) c.requires in
    let thing = thing_read w.objects c.args.x c.index.result.now valid c.index.ensures in
    let same = c.cells_in-cells.ensures ∙ ap (λ (o : Object). o.cells) thing ∙ ap (λ v. (thing_of v.objects c.args.x).cells) c.self.view_is in
    sym (unplaced (is_named (folded c.args.name.now)) c.cells_in-cells.result.now (sym c.in-None.ensures)) ∙ ap (λ cs. cell_named cs (folded c.args.name.now)) same

use Rattle.std.proofs.Common.{sym, ◌∙◌, ap, subst, IsSome}
use Rattle.moo_value.specs.Compare.{folded}
use Rattle.moo_world_object.specs.Cells.{cell_named}
use Rattle.moo_world_object.specs.Objects.{Object}
use Rattle.moo_world_table.specs.World.{World, object_of, thing_of}
use Rattle.moo_world_table.proofs.VerbChanges.{thing_read}
use Rattle.moo_world.proofs.World.cell_found.Goals as goal

pub returns : goal.returns
returns c =
    let w : World = record { objects = c.self.inside.objects.items; inheritance = c.self.inside.inheritance; containment = c.self.inside.containment; players = c.self.inside.players.items } in
    let valid = subst (λ v. IsSome (object_of v.objects c.args.x)) (sym c.self.view_is) c.requires in
    let thing = thing_read w.objects c.args.x c.index.result.now valid c.index.ensures in
    c.cell_in.ensures ∙ ap (λ (o : Object). cell_named o.cells (folded c.args.name.now)) thing ∙ ap (λ v. cell_named (thing_of v.objects c.args.x).cells (folded c.args.name.now)) c.self.view_is

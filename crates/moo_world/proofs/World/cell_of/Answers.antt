use Rattle.std.proofs.Common.{IsSome, sym, ◌∙◌, ap, subst}
use Rattle.std.specs.Option.{option_copied}
use Rattle.moo_value.specs.Compare.{folded}
use Rattle.moo_world_object.specs.Cells.{cell_named}
use Rattle.moo_world_object.specs.Objects.{Object}
use Rattle.moo_world_table.specs.World.{World, object_of, thing_of}
use Rattle.moo_world.specs.PropertyCalls.{plain_raises}
use Rattle.moo_world_table.proofs.VerbChanges.{thing_read}
use Rattle.moo_world.proofs.Raising.{cell_allowed, cell_refused}
use Rattle.moo_world.proofs.World.cell_of.Goals as goal

pub returns-in-Some-clause-cell : goal.returns-in-Some-clause-cell
returns-in-Some-clause-cell c =
    let w : World = record { objects = c.self.inside.objects.items; inheritance = c.self.inside.inheritance; containment = c.self.inside.containment; players = c.self.inside.players.items } in
    let valid = subst (λ v. IsSome (object_of v.objects c.args.x)) (sym c.self.view_is) c.requires in
    let thing = thing_read w.objects c.args.x c.index.result.now valid c.index.ensures in
    let found = sym (ap option_copied c.in-Some.is) ∙ c.cell_in.ensures ∙ ap (λ (o : Object). cell_named o.cells (folded c.args.name.now)) thing in (
      ap (λ v. plain_raises v c.args.x (folded c.args.name.now)) (sym c.self.view_is) ∙ cell_allowed w c.args.x (folded c.args.name.now) c.in-Some.cell.now c.self.invariant.formed found,
      ap (λ v. cell_named (thing_of v.objects c.args.x).cells (folded c.args.name.now)) (sym c.self.view_is) ∙ sym found,
    )

pub returns-in-None-clause-cell : goal.returns-in-None-clause-cell
returns-in-None-clause-cell c =
    let w : World = record { objects = c.self.inside.objects.items; inheritance = c.self.inside.inheritance; containment = c.self.inside.containment; players = c.self.inside.players.items } in
    let valid = subst (λ v. IsSome (object_of v.objects c.args.x)) (sym c.self.view_is) c.requires in
    let thing = thing_read w.objects c.args.x c.index.result.now valid c.index.ensures in
    let found = sym (ap option_copied c.in-None.is) ∙ c.cell_in.ensures ∙ ap (λ (o : Object). cell_named o.cells (folded c.args.name.now)) thing in
    ap (λ v. plain_raises v c.args.x (folded c.args.name.now)) (sym c.self.view_is) ∙ cell_refused w c.args.x (folded c.args.name.now) c.self.invariant.formed found

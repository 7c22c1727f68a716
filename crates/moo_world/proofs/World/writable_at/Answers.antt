use Rattle.std.proofs.Common.{w32, rules, sym, ◌∙◌, ap, subst, IsSome}
use Rattle.std.proofs.lemmas.Int.{to_z-of_z}
use mir.Val.{SFits}
use Rattle.std.specs.List.{position}
use Rattle.std.specs.Option.{option_copied}
use Rattle.moo_value.specs.Compare.{folded}
use Rattle.moo_world_object.specs.Cells.{is_named}
use Rattle.moo_world_object.specs.Objects.{Object}
use Rattle.moo_world_table.specs.World.{World, object_of, thing_of}
use Rattle.moo_world_table.proofs.VerbChanges.{thing_read}
use Rattle.moo_world.specs.Rights.{may_write_cell}
use Rattle.moo_world.proofs.ByRight.{writable_here}
use Rattle.moo_world.proofs.World.writable_at.Goals as goal

pub returns-then-may_write_cell : goal.returns-then-may_write_cell
returns-then-may_write_cell c =
    let w : World = record { objects = c.self.inside.objects.items; inheritance = c.self.inside.inheritance; containment = c.self.inside.containment; players = c.self.inside.players.items } in
    let valid = subst (λ v. IsSome (object_of v.objects c.args.x)) (sym c.self.view_is) c.requires.valid in
    let thing = thing_read w.objects c.args.x c.index.result.now valid c.index.ensures in
    let same = sym (c.cells_in-cells.ensures ∙ ap (λ (o : Object). o.cells) thing ∙ ap (λ v. (thing_of v.objects c.args.x).cells) c.self.view_is) in
    let fits : SFits w32 c.args.programmer = search rules in
    let may = sym (ap (may_write_cell c.args.self.now c.args.programmer) (ap option_copied c.in-Some.is)) ∙ sym (rw (to_z-of_z w32 c.args.programmer fits) at c.may_write_cell.ensures) ∙ c.if-may_write_cell.true in
    writable_here c.args.self.now c.args.programmer c.args.x (folded c.args.name.now) c.cells_in-cells.result.now c.args.place c.in-Some.cell.now same (ap (position (is_named (folded c.args.name.now))) (sym same) ∙ c.requires.at)
    c.in-Some.ensures.lookup.1 (sym c.if-is_hidden.false ∙ c.is_hidden.ensures) may

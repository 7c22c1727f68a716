use Rattle.std.proofs.Common.{◌≡◌, Some, sym, ◌∙◌, ap, subst, slice_get}
use Rattle.std.specs.Option.{option_map, option_copied}
use Rattle.moo_value.specs.Compare.{folded}
use Rattle.moo_value.specs.View.{tree}
use Rattle.moo_world_object.specs.Cells.{Key, cell_named}
use Rattle.moo_world_table.specs.World.{World, IsStocked, thing_of}
use Rattle.moo_world_table.specs.Properties.{read, values_above}
use Rattle.moo_world_table.proofs.Found.{named_definition, own_read}
use Rattle.moo_world_table.proofs.ValueChanges.{nearest_read}
use Rattle.moo_world.proofs.World.value_written.Goals as goal

pub returns-in-Some : goal.returns-in-Some
returns-in-Some c =
    let is = sym c.value.ensures ∙ ap (λ r. option_map tree (option_copied r)) c.in-Some.is in
    sym (own_read c.args.self.now c.args.x (folded c.args.name.now) c.args.cell.now c.is_well_formed.ensures c.requires.named (tree c.in-Some.value.now) is)

pub returns-in-None : goal.returns-in-None
returns-in-None c =
    let w : World = record { objects = c.self.inside.objects.items; inheritance = c.self.inside.inheritance; containment = c.self.inside.containment; players = c.self.inside.players.items } in
    let name = folded c.args.name.now in
    let found = ap (λ v. cell_named (thing_of v.objects c.args.x).cells name) c.self.view_is ∙ c.requires.named in
    let k : Key = (c.definer.result, name) in
    let known = ap (λ d. Some (let j : Key = (d, name) in j)) c.definer.ensures ∙ named_definition w c.args.x name c.args.cell.now c.self.invariant.formed found in
    nearest_read w c.args.x name k (option_map tree (option_copied c.nearest_written.result)) known
    (subst (λ os. option_map tree (option_copied c.nearest_written.result) ≡ slice_get (values_above os w.inheritance k c.args.x) 0) c.deref.ensures.value c.nearest_written.ensures)
    ∙ ap (λ v. read v c.args.x name) c.self.view_is

pub nearest_written-requires-clause-stocked : goal.nearest_written-requires-clause-stocked
nearest_written-requires-clause-stocked c =
    subst (λ os. IsStocked os c.self.inside.inheritance) (sym c.deref.ensures.value) c.self.invariant.formed.stocked

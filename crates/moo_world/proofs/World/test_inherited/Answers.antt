use Rattle.std.proofs.Common.{sym, ◌∙◌, ap, subst, IsSome}
use Rattle.moo_value.specs.Compare.{folded}
use Rattle.moo_world_table.specs.World.{World, object_of}
use Rattle.moo_world.specs.EditCalls.{clear_definition_raises}
use Rattle.moo_world_table.specs.Properties.{definition_named}
use Rattle.moo_world_table.proofs.ValueChanges.{definition_is}
use Rattle.moo_world.proofs.Inheriting.{none_inherited, own_not_inherited, inherited_found}
use Rattle.moo_world.proofs.World.test_inherited.Goals as goal

pub returns-in_default-clause-raises : goal.returns-in_default-clause-raises
returns-in_default-clause-raises c =
    let w : World = record { objects = c.self.inside.objects.items; inheritance = c.self.inside.inheritance; containment = c.self.inside.containment; players = c.self.inside.players.items } in
    let valid = subst (λ v. IsSome (object_of v.objects c.args.x)) (sym c.self.view_is) c.requires in
    let name = folded c.args.name.now in
    let found = definition_is w c.args.x name c.index.result.now c.definer_in.result c.self.invariant.formed valid c.index.ensures c.definer_in.ensures in
    ap (λ v. clear_definition_raises c.args.x (definition_named v c.args.x name)) (sym c.self.view_is) ∙
    none_inherited c.args.x name c.definer_in.result (definition_named w c.args.x name) found c.in_default.is

pub returns-then-definer-x-clause-raises : goal.returns-then-definer-x-clause-raises
returns-then-definer-x-clause-raises c =
    let w : World = record { objects = c.self.inside.objects.items; inheritance = c.self.inside.inheritance; containment = c.self.inside.containment; players = c.self.inside.players.items } in
    let valid = subst (λ v. IsSome (object_of v.objects c.args.x)) (sym c.self.view_is) c.requires in
    let name = folded c.args.name.now in
    let found = definition_is w c.args.x name c.index.result.now c.definer_in.result c.self.invariant.formed valid c.index.ensures c.definer_in.ensures in
    ap (λ v. clear_definition_raises c.args.x (definition_named v c.args.x name)) (sym c.self.view_is) ∙
    own_not_inherited c.args.x name c.definer_in.result (definition_named w c.args.x name) c.in-Some.definer found c.in-Some.is c.if-definer-x.true

pub returns-clause-raises : goal.returns-clause-raises
returns-clause-raises c =
    let w : World = record { objects = c.self.inside.objects.items; inheritance = c.self.inside.inheritance; containment = c.self.inside.containment; players = c.self.inside.players.items } in
    let valid = subst (λ v. IsSome (object_of v.objects c.args.x)) (sym c.self.view_is) c.requires in
    let name = folded c.args.name.now in
    let found = definition_is w c.args.x name c.index.result.now c.definer_in.result c.self.invariant.formed valid c.index.ensures c.definer_in.ensures in
    let both = inherited_found c.args.x name c.definer_in.result (definition_named w c.args.x name) c.in-Some.definer found c.in-Some.is c.if-definer-x.false in (
      ap (λ v. clear_definition_raises c.args.x (definition_named v c.args.x name)) (sym c.self.view_is) ∙ both.0,
      ap (λ v. definition_named v c.args.x name) (sym c.self.view_is) ∙ both.1,
    )

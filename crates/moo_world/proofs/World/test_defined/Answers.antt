use Rattle.std.proofs.Common.{not, sym, ◌∙◌, ap, subst, IsSome}
use Rattle.moo_value.specs.Compare.{folded}
use Rattle.moo_world_table.specs.World.{World, object_of}
use Rattle.moo_world.specs.PropertyCalls.{plain_raises}
use Rattle.moo_world_table.proofs.ValueChanges.{definition_is}
use Rattle.moo_world.proofs.Raising.{plain_allowed, plain_refused}
use Rattle.moo_world.proofs.World.test_defined.Goals as goal

pub returns-then-is_none-clause-raises : goal.returns-then-is_none-clause-raises
returns-then-is_none-clause-raises c =
    let w : World = record { objects = c.self.inside.objects.items; inheritance = c.self.inside.inheritance; containment = c.self.inside.containment; players = c.self.inside.players.items } in
    let valid = subst (λ v. IsSome (object_of v.objects c.args.x)) (sym c.self.view_is) c.requires in
    let found = definition_is w c.args.x (folded c.args.name.now) c.index.result.now c.definer_in.result c.self.invariant.formed valid c.index.ensures c.definer_in.ensures in
    ap (λ v. plain_raises v c.args.x (folded c.args.name.now)) (sym c.self.view_is) ∙ plain_refused w c.args.x (folded c.args.name.now) c.definer_in.result found (c.is_none.ensures ∙ ap not c.if-is_none.true)

pub returns-clause-raises : goal.returns-clause-raises
returns-clause-raises c =
    let w : World = record { objects = c.self.inside.objects.items; inheritance = c.self.inside.inheritance; containment = c.self.inside.containment; players = c.self.inside.players.items } in
    let valid = subst (λ v. IsSome (object_of v.objects c.args.x)) (sym c.self.view_is) c.requires in
    let found = definition_is w c.args.x (folded c.args.name.now) c.index.result.now c.definer_in.result c.self.invariant.formed valid c.index.ensures c.definer_in.ensures in
    (ap (λ v. plain_raises v c.args.x (folded c.args.name.now)) (sym c.self.view_is) ∙ plain_allowed w c.args.x (folded c.args.name.now) c.definer_in.result found (c.is_none.ensures ∙ ap not c.if-is_none.false), tt)

use Rattle.std.proofs.Common.{sym, ap, subst, IsSome, refl}
use Rattle.moo_value.specs.Compare.{folded}
use Rattle.moo_value.specs.View.{tree}
use Rattle.moo_world_table.specs.World.{World, object_of, thing_of}
use Rattle.moo_world_table.specs.Changes.{with_object, with_value_of}
use Rattle.moo_world_table.proofs.Single.{slot_changed, object_kept}
use Rattle.moo_world_table.proofs.ValueChanges.{value_kept}
use Rattle.moo_world.proofs.World.set_value.Goals as goal

pub invariant_of-self : goal.invariant_of-self
invariant_of-self c =
    let w : World = record { objects = c.self.inside.objects.items; inheritance = c.self.inside.inheritance; containment = c.self.inside.containment; players = c.self.inside.players.items } in
    let valid = subst (λ v. IsSome (object_of v.objects c.args.x)) (sym c.self.view_is) c.requires in
    let slot = slot_changed w.objects c.args.x (with_value_of (folded c.args.name.now) (tree c.args.value)) c.index_mut.result.now c.set_in.new.slot valid c.index_mut.ensures.value c.set_in.ensures in
    rw slot (object_kept w c.args.x (with_value_of (folded c.args.name.now) (tree c.args.value)) c.self.inside.programs c.self.invariant valid
    (value_kept c.args.x (folded c.args.name.now) (tree c.args.value) (thing_of w.objects c.args.x) (c.weight-weight.ensures.value, c.weight-weight.ensures.limits)) refl)

pub returns-clause-world : goal.returns-clause-world
returns-clause-world c =
    let w : World = record { objects = c.self.inside.objects.items; inheritance = c.self.inside.inheritance; containment = c.self.inside.containment; players = c.self.inside.players.items } in
    let valid = subst (λ v. IsSome (object_of v.objects c.args.x)) (sym c.self.view_is) c.requires in
    let slot = slot_changed w.objects c.args.x (with_value_of (folded c.args.name.now) (tree c.args.value)) c.index_mut.result.now c.set_in.new.slot valid c.index_mut.ensures.value c.set_in.ensures in
    (c.in_ok-test_defined.ensures.raises.0, (rw slot (ap (λ v. with_object v c.args.x (with_value_of (folded c.args.name.now) (tree c.args.value))) c.self.view_is)))

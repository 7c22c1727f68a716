use Rattle.std.proofs.Common.{sym, ap, subst, IsSome, refl}
use Rattle.moo_value.specs.Compare.{folded}
use Rattle.moo_world_object.specs.Cells.{Key}
use Rattle.moo_world_table.specs.World.{World, object_of, thing_of}
use Rattle.moo_world_table.specs.Changes.{with_object}
use Rattle.moo_world_table.specs.Edits.{with_clear}
use Rattle.moo_world_table.specs.Properties.{definition_named}
use Rattle.moo_world_table.proofs.Single.{slot_changed, object_kept}
use Rattle.moo_world_table.proofs.Edited.{clear_kept}
use Rattle.moo_world.proofs.Inheriting.{inherited_is_other}
use Rattle.moo_world.proofs.World.clear_value.Goals as goal

pub invariant_of-self : goal.invariant_of-self
invariant_of-self c =
    let w : World = record { objects = c.self.inside.objects.items; inheritance = c.self.inside.inheritance; containment = c.self.inside.containment; players = c.self.inside.players.items } in
    let valid = subst (λ v. IsSome (object_of v.objects c.args.x)) (sym c.self.view_is) c.requires in
    let k : Key = (c.in_ok-definer.definer, folded c.args.name.now) in
    let slot = slot_changed w.objects c.args.x (with_clear k) c.index_mut.result.now c.clear_in.new.slot valid c.index_mut.ensures.value c.clear_in.ensures in
    let other = inherited_is_other c.args.x k (definition_named c.args.self.now c.args.x (folded c.args.name.now)) c.in_ok-definer.ensures.raises.1 c.in_ok-definer.ensures.raises.0 in
    rw slot (object_kept w c.args.x (with_clear k) c.self.inside.programs c.self.invariant valid (clear_kept c.args.x k (thing_of w.objects c.args.x) other) refl)

pub returns-clause-world : goal.returns-clause-world
returns-clause-world c =
    let w : World = record { objects = c.self.inside.objects.items; inheritance = c.self.inside.inheritance; containment = c.self.inside.containment; players = c.self.inside.players.items } in
    let valid = subst (λ v. IsSome (object_of v.objects c.args.x)) (sym c.self.view_is) c.requires in
    let k : Key = (c.in_ok-definer.definer, folded c.args.name.now) in
    let slot = slot_changed w.objects c.args.x (with_clear k) c.index_mut.result.now c.clear_in.new.slot valid c.index_mut.ensures.value c.clear_in.ensures in
    (c.in_ok-definer.ensures.raises.0, (rw (slot, c.in_ok-definer.ensures.raises.1) (ap (λ v. with_object v c.args.x (with_clear k)) c.self.view_is)))

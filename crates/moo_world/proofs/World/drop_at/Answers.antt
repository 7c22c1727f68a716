use Rattle.std.proofs.Common.{sym, ◌≡◌, subst, Some, IsSome, refl, pos}
use Rattle.moo_value.specs.Compare.{folded}
use Rattle.moo_value.specs.Tree.{integer}
use Rattle.moo_world_table.specs.World.{World, object_of, thing_of}
use Rattle.moo_world_table.specs.Changes.{with_object, with_value_of}
use Rattle.moo_world_table.proofs.Single.{object_kept}
use Rattle.moo_world_table.proofs.ValueChanges.{value_kept}
use Rattle.moo_world.specs.Calls.{number_of}
use Rattle.moo_world.specs.ByRight.{IsWritable, IsDropped}
use Rattle.moo_world.proofs.ByRight.{put_here}
use Rattle.moo_world.proofs.Dropped.{dropped_at}
use Rattle.moo_world.proofs.World.drop_at.Goals as goal

pub invariant_of-self : goal.invariant_of-self
invariant_of-self c =
    let w : World = record { objects = c.self.inside.objects.items; inheritance = c.self.inside.inheritance; containment = c.self.inside.containment; players = c.self.inside.players.items } in
    let valid = subst (λ v. IsSome (object_of v.objects c.args.x)) (sym c.self.view_is) c.requires.valid in
    let can = subst (λ v. IsWritable v c.args.programmer c.args.x (folded c.args.name.now) c.args.place) (sym c.self.view_is) c.requires.writable in
    let slot = put_here w c.args.programmer c.args.x (folded c.args.name.now) c.args.place (integer (pos 0)) c.index_mut.result.now c.set_at_in.new.slot valid c.index_mut.ensures.value can c.set_at_in.ensures in
    rw slot (object_kept w c.args.x (with_value_of (folded c.args.name.now) (integer (pos 0))) c.self.inside.programs c.self.invariant valid
    (value_kept c.args.x (folded c.args.name.now) (integer (pos 0)) (thing_of w.objects c.args.x) (c.weight-weight.ensures.value, c.weight-weight.ensures.limits)) refl)

pub returns : goal.returns
returns c =
    let w : World = record { objects = c.self.inside.objects.items; inheritance = c.self.inside.inheritance; containment = c.self.inside.containment; players = c.self.inside.players.items } in
    let valid = subst (λ v. IsSome (object_of v.objects c.args.x)) (sym c.self.view_is) c.requires.valid in
    let numbered = subst (λ v. number_of v.objects c.args.o ≡ Some c.args.x) (sym c.self.view_is) c.requires.numbered in
    let can = subst (λ v. IsWritable v c.args.programmer c.args.x (folded c.args.name.now) c.args.place) (sym c.self.view_is) c.requires.writable in
    let slot = put_here w c.args.programmer c.args.x (folded c.args.name.now) c.args.place (integer (pos 0)) c.index_mut.result.now c.set_at_in.new.slot valid c.index_mut.ensures.value can c.set_at_in.ensures in
    let kept = object_kept w c.args.x (with_value_of (folded c.args.name.now) (integer (pos 0))) c.self.inside.programs c.self.invariant valid
    (value_kept c.args.x (folded c.args.name.now) (integer (pos 0)) (thing_of w.objects c.args.x) (c.weight-weight.ensures.value, c.weight-weight.ensures.limits)) refl in
    let dropped = dropped_at w c.args.programmer c.args.o c.args.x c.args.name.now c.args.place (integer (pos 0)) numbered valid c.self.invariant.formed kept.formed can in
    rw slot (subst (λ v. IsDropped v (with_object w c.args.x (with_value_of (folded c.args.name.now) (integer (pos 0)))) c.args.programmer c.args.o c.args.name.now) c.self.view_is dropped)

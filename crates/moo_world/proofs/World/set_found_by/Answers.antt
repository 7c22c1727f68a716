use Rattle.std.proofs.Common.{w32, rules, sym, ◌∙◌, ap, subst, IsSome, refl}
use Rattle.std.proofs.lemmas.Int.{to_z-of_z}
use mir.Val.{SFits}
use Rattle.moo_value.specs.Compare.{folded}
use Rattle.moo_value.specs.View.{tree}
use Rattle.moo_world_table.specs.World.{World, object_of, thing_of, IsWellFormed}
use Rattle.moo_world_table.specs.Changes.{with_object, with_value_of}
use Rattle.moo_world_table.proofs.Single.{object_kept}
use Rattle.moo_world_table.proofs.ValueChanges.{value_kept}
use Rattle.moo_world.specs.ByRight.{IsWritable}
use Rattle.moo_world.proofs.ByRight.{put_here, writable_free, writable_sets}
use Rattle.moo_world.proofs.World.set_found_by.Goals as goal

pub invariant_of-self : goal.invariant_of-self
invariant_of-self c =
    let w : World = record { objects = c.self.inside.objects.items; inheritance = c.self.inside.inheritance; containment = c.self.inside.containment; players = c.self.inside.players.items } in
    let valid = subst (λ v. IsSome (object_of v.objects c.args.x)) (sym c.self.view_is) c.requires.valid in
    let can = rw (c.in-Some.is) at c.requires.writable in
    let here = subst (λ v. IsWritable v c.args.programmer c.args.x (folded c.args.name.now) c.in-Some.place) (sym c.self.view_is) can in
    let slot = put_here w c.args.programmer c.args.x (folded c.args.name.now) c.in-Some.place (tree c.args.value) c.index_mut.result.now c.set_at_in.new.slot valid c.index_mut.ensures.value here c.set_at_in.ensures in
    rw slot (object_kept w c.args.x (with_value_of (folded c.args.name.now) (tree c.args.value)) c.self.inside.programs c.self.invariant valid
    (value_kept c.args.x (folded c.args.name.now) (tree c.args.value) (thing_of w.objects c.args.x) (c.weight-weight.ensures.value, c.weight-weight.ensures.limits)) refl)

pub returns-in-Some-clause-world : goal.returns-in-Some-clause-world
returns-in-Some-clause-world c =
    let w : World = record { objects = c.self.inside.objects.items; inheritance = c.self.inside.inheritance; containment = c.self.inside.containment; players = c.self.inside.players.items } in
    let valid = subst (λ v. IsSome (object_of v.objects c.args.x)) (sym c.self.view_is) c.requires.valid in
    let can = rw (c.in-Some.is) at c.requires.writable in
    let here = subst (λ v. IsWritable v c.args.programmer c.args.x (folded c.args.name.now) c.in-Some.place) (sym c.self.view_is) can in
    let slot = put_here w c.args.programmer c.args.x (folded c.args.name.now) c.in-Some.place (tree c.args.value) c.index_mut.result.now c.set_at_in.new.slot valid c.index_mut.ensures.value here c.set_at_in.ensures in
    let formed = subst (λ v. IsWellFormed v) c.self.view_is c.self.invariant.formed in (
      writable_free c.args.self.now c.args.programmer c.args.o c.args.x c.args.name.now c.requires.numbered c.requires.valid c.in-Some.place (tree c.args.value) formed can,
      (rw slot (ap (λ v. with_object v c.args.x (with_value_of (folded c.args.name.now) (tree c.args.value))) c.self.view_is
          ∙ writable_sets c.args.self.now c.args.programmer c.args.o c.args.x c.args.name.now c.requires.numbered c.requires.valid c.in-Some.place (tree c.args.value) can)),
    )

pub returns-in-None-clause-world : goal.returns-in-None-clause-world
returns-in-None-clause-world c =
    let rights : SFits w32 c.args.programmer = search rules in
    let fits : SFits w32 c.args.o = search rules in
    rw (to_z-of_z w32 c.args.programmer rights, to_z-of_z w32 c.args.o fits) at c.set_in_order.ensures.world

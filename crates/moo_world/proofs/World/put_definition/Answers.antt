use Rattle.std.proofs.Common.{◌≡◌, sym, ◌∙◌, ap, subst, arith, length, IsSome, refl}
use Rattle.moo_world_tree.specs.Forest.{above_of}
use Rattle.moo_world_tree.specs.Walk.{met, IsWalkDown}
use Rattle.moo_world_table.specs.World.{World, object_of, cells_of}
use Rattle.moo_world_table.specs.Steps.{defined_along, IsDefinable}
use Rattle.moo_world_table.specs.Changes.{after_define}
use Rattle.moo_world_table.proofs.Changing.{valid_within}
use Rattle.moo_world_table.proofs.Counting.{programs_defined}
use Rattle.moo_world_table.proofs.Joining.{walk_low}
use Rattle.moo_world_table.proofs.Definitions.{defined_well_formed}
use Rattle.moo_world_table.proofs.Placing.{defined_is}
use Rattle.moo_world.proofs.World.put_definition.Goals as goal

pub define_along-requires : goal.define_along-requires
define_along-requires c =
    let w : World = record { objects = c.self.inside.objects.items; inheritance = c.self.inside.inheritance; containment = c.self.inside.containment; players = c.self.inside.players.items } in
    let valid = subst (λ v. IsSome (object_of v.objects c.args.x)) (sym c.self.view_is) c.requires.object in
    let wd = subst (λ v. IsWalkDown v.inheritance c.args.x c.args.walk.now) (sym c.self.view_is) c.requires.walk in
    λ k h. (let low = walk_low w.objects w.inheritance c.self.invariant.formed.parents c.args.x valid c.args.walk.now wd k h in omega (arith, low, c.self.inside.objects.ok.0))

pub invariant_of-self-2 : goal.invariant_of-self-2
invariant_of-self-2 c =
    let w : World = record { objects = c.self.inside.objects.items; inheritance = c.self.inside.inheritance; containment = c.self.inside.containment; players = c.self.inside.players.items } in
    let valid = subst (λ v. IsSome (object_of v.objects c.args.x)) (sym c.self.view_is) c.requires.object in
    let d = subst (λ v. IsDefinable v c.args.x c.args.name c.args.cell) (sym c.self.view_is) c.requires.allowed in
    let wd = subst (λ v. IsWalkDown v.inheritance c.args.x c.args.walk.now) (sym c.self.view_is) c.requires.walk in
    let following : length c.cells_of-following.result.now ≡ length (cells_of w.objects (above_of w.inheritance c.args.x)) = ap length (c.cells_of-following.ensures ∙ ap (cells_of c.deref.result.now) c.above.ensures.value ∙ ap (λ os. cells_of os (above_of w.inheritance c.args.x)) c.deref.ensures.value) in
    let put = c.in_ok-define_along.ensures.ok ∙ ap (λ k. defined_along k c.args.name c.args.cell w.objects (met c.args.walk.now)) following ∙ defined_is w c.args.x c.args.name c.args.cell c.self.invariant.formed valid d c.args.walk.now wd in
    rw put (record { formed = defined_well_formed w c.args.x c.args.name c.args.cell c.self.invariant.formed valid d; counted = c.self.invariant.counted ∙ sym (programs_defined w.objects w.inheritance c.args.x c.args.name c.args.cell (valid_within w.objects c.args.x valid)) })

pub returns : goal.returns
returns c =
    let w : World = record { objects = c.self.inside.objects.items; inheritance = c.self.inside.inheritance; containment = c.self.inside.containment; players = c.self.inside.players.items } in
    let valid = subst (λ v. IsSome (object_of v.objects c.args.x)) (sym c.self.view_is) c.requires.object in
    let d = subst (λ v. IsDefinable v c.args.x c.args.name c.args.cell) (sym c.self.view_is) c.requires.allowed in
    let wd = subst (λ v. IsWalkDown v.inheritance c.args.x c.args.walk.now) (sym c.self.view_is) c.requires.walk in
    let following : length c.cells_of-following.result.now ≡ length (cells_of w.objects (above_of w.inheritance c.args.x)) = ap length (c.cells_of-following.ensures ∙ ap (cells_of c.deref.result.now) c.above.ensures.value ∙ ap (λ os. cells_of os (above_of w.inheritance c.args.x)) c.deref.ensures.value) in
    let put = c.in_ok-define_along.ensures.ok ∙ ap (λ k. defined_along k c.args.name c.args.cell w.objects (met c.args.walk.now)) following ∙ defined_is w c.args.x c.args.name c.args.cell c.self.invariant.formed valid d c.args.walk.now wd in
    (refl, (rw put (ap (λ v. after_define v c.args.x c.args.name c.args.cell) c.self.view_is)))

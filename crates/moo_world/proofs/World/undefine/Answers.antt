use Rattle.std.proofs.Common.{◌<◌, ℕ, None, sym, ◌∙◌, ap, subst, arith, length, IsSome, set}
use Rattle.std.proofs.lemmas.List.{get_or_read}
use Rattle.moo_value.specs.Compare.{folded}
use Rattle.moo_world_tree.specs.Walk.{met, step_at}
use Rattle.moo_world_table.specs.World.{World, object_of}
use Rattle.moo_world_table.specs.Changes.{without_name, without_cell, after_undefine}
use Rattle.moo_world_table.specs.Steps.{changed_along}
use Rattle.moo_world_table.proofs.Counting.{programs_undefined}
use Rattle.moo_world_table.proofs.Changing.{valid_within}
use Rattle.moo_world_table.proofs.Joining.{walk_low}
use Rattle.moo_world_table.proofs.Removals.{lost_is, undefined_well_formed}
use Rattle.moo_world.proofs.World.undefine.Goals as goal

pub walk_down-requires : goal.walk_down-requires
walk_down-requires c =
    let w : World = record { objects = c.self.inside.objects.items; inheritance = c.self.inside.inheritance; containment = c.self.inside.containment; players = c.self.inside.players.items } in
    let valid = subst (λ v. IsSome (object_of v.objects c.args.x)) (sym c.self.view_is) c.requires in
    let name = folded c.args.name.now in
    let low = valid_within w.objects c.args.x valid in omega (arith, low, c.self.invariant.formed.parents.many)

pub lose_along-requires : goal.lose_along-requires
lose_along-requires c =
    let w : World = record { objects = c.self.inside.objects.items; inheritance = c.self.inside.inheritance; containment = c.self.inside.containment; players = c.self.inside.players.items } in
    let valid = subst (λ v. IsSome (object_of v.objects c.args.x)) (sym c.self.view_is) c.requires in
    let name = folded c.args.name.now in
    let each = subst (λ ys. (k : ℕ) → k < length ys → (step_at ys k).node < length w.objects) (sym c.deref.ensures.value) (walk_low w.objects w.inheritance c.self.invariant.formed.parents c.args.x valid c.in_ok-walk.walk.items c.in_ok-walk.ensures) in
    λ k h. (let low = each k h in omega (arith, low, c.self.inside.objects.ok.0))

pub invariant_of-self : goal.invariant_of-self
invariant_of-self c =
    let w : World = record { objects = c.self.inside.objects.items; inheritance = c.self.inside.inheritance; containment = c.self.inside.containment; players = c.self.inside.players.items } in
    let valid = subst (λ v. IsSome (object_of v.objects c.args.x)) (sym c.self.view_is) c.requires in
    let name = folded c.args.name.now in
    let slot = c.forget_in.ensures ∙ ap (without_name name) (get_or_read w.objects c.args.x c.index_mut.result.now (valid_within w.objects c.args.x valid) c.index_mut.ensures.value None) in
    let start = ap (set w.objects c.args.x) slot in
    let lost = c.lose_along.ensures ∙ ap (λ ys. changed_along (without_cell (c.args.x, name)) (set w.objects c.args.x c.forget_in.new.slot) (met ys)) c.deref.ensures.value ∙
    lost_is w c.args.x name c.self.invariant.formed valid c.in_ok-walk.walk.items c.in_ok-walk.ensures (set w.objects c.args.x c.forget_in.new.slot) start in
    rw lost (record { formed = (undefined_well_formed w c.args.x name c.self.invariant.formed valid); counted = c.self.invariant.counted ∙ sym (programs_undefined w.objects c.args.x name (valid_within w.objects c.args.x valid)) })

pub returns-clause-world : goal.returns-clause-world
returns-clause-world c =
    let w : World = record { objects = c.self.inside.objects.items; inheritance = c.self.inside.inheritance; containment = c.self.inside.containment; players = c.self.inside.players.items } in
    let valid = subst (λ v. IsSome (object_of v.objects c.args.x)) (sym c.self.view_is) c.requires in
    let name = folded c.args.name.now in
    let slot = c.forget_in.ensures ∙ ap (without_name name) (get_or_read w.objects c.args.x c.index_mut.result.now (valid_within w.objects c.args.x valid) c.index_mut.ensures.value None) in
    let start = ap (set w.objects c.args.x) slot in
    let lost = c.lose_along.ensures ∙ ap (λ ys. changed_along (without_cell (c.args.x, name)) (set w.objects c.args.x c.forget_in.new.slot) (met ys)) c.deref.ensures.value ∙
    lost_is w c.args.x name c.self.invariant.formed valid c.in_ok-walk.walk.items c.in_ok-walk.ensures (set w.objects c.args.x c.forget_in.new.slot) start in
    (c.in_ok-test_own_property.ensures.raises.0, (rw lost (ap (λ v. after_undefine v c.args.x name) c.self.view_is)))

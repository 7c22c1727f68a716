use Rattle.std.proofs.Common.{◌≡◌, sym, ◌∙◌, ap, subst, IsSome, w32, refl}
use Rattle.std.specs.Option.{option_map}
use Rattle.std.proofs.lemmas.Int.{to_z-of_z}
use Rattle.moo_value.specs.Compare.{folded}
use Rattle.moo_world_object.specs.Cells.{Key}
use Rattle.moo_world_table.specs.World.{World, object_of, thing_of}
use Rattle.moo_world_table.specs.Changes.{with_object}
use Rattle.moo_world_table.specs.Edits.{with_cell_info}
use Rattle.moo_world_table.proofs.Single.{slot_changed, object_kept}
use Rattle.moo_world_table.proofs.Edited.{info_kept}
use Rattle.moo_world.proofs.World.give_info.Goals as goal

pub invariant_of-self : goal.invariant_of-self
invariant_of-self c =
    let w : World = record { objects = c.self.inside.objects.items; inheritance = c.self.inside.inheritance; containment = c.self.inside.containment; players = c.self.inside.players.items } in
    let valid = subst (λ v. IsSome (object_of v.objects c.args.x)) (sym c.self.view_is) c.requires in
    let k : Key = (c.args.definer, folded c.args.name.now) in
    let owner = to_z-of_z w32 c.args.owner c.ranges.owner in
    let wrote : c.set_info_in.new.slot ≡ option_map (with_cell_info k c.args.owner c.args.perms) c.index_mut.result.now = c.set_info_in.ensures ∙ ap (λ n. option_map (with_cell_info k n c.args.perms) c.index_mut.result.now) owner in
    let slot = slot_changed w.objects c.args.x (with_cell_info k c.args.owner c.args.perms) c.index_mut.result.now c.set_info_in.new.slot valid c.index_mut.ensures.value wrote in
    rw slot (object_kept w c.args.x (with_cell_info k c.args.owner c.args.perms) c.self.inside.programs c.self.invariant valid (info_kept c.args.x k c.args.owner c.args.perms (thing_of w.objects c.args.x) c.ranges.owner) refl)

pub returns : goal.returns
returns c =
    let w : World = record { objects = c.self.inside.objects.items; inheritance = c.self.inside.inheritance; containment = c.self.inside.containment; players = c.self.inside.players.items } in
    let valid = subst (λ v. IsSome (object_of v.objects c.args.x)) (sym c.self.view_is) c.requires in
    let k : Key = (c.args.definer, folded c.args.name.now) in
    let owner = to_z-of_z w32 c.args.owner c.ranges.owner in
    let wrote : c.set_info_in.new.slot ≡ option_map (with_cell_info k c.args.owner c.args.perms) c.index_mut.result.now = c.set_info_in.ensures ∙ ap (λ n. option_map (with_cell_info k n c.args.perms) c.index_mut.result.now) owner in
    let slot = slot_changed w.objects c.args.x (with_cell_info k c.args.owner c.args.perms) c.index_mut.result.now c.set_info_in.new.slot valid c.index_mut.ensures.value wrote in
    rw slot (ap (λ v. with_object v c.args.x (with_cell_info k c.args.owner c.args.perms)) c.self.view_is)

use Rattle.std.proofs.Common.{sym, ◌∙◌, ap, subst, IsSome}
use Rattle.moo_world_table.specs.World.{World, object_of}
use Rattle.moo_world_table.specs.Changes.{would_loop}
use Rattle.moo_world.specs.Calls.{place_raises}
use Rattle.moo_world_table.proofs.Changing.{IsValidPlace, place_changed, place_free}
use Rattle.moo_world.proofs.World.set_place.Goals as goal

pub invariant_of-self-2 : goal.invariant_of-self-2
invariant_of-self-2 c =
    let w : World = record { objects = c.self.inside.objects.items; inheritance = c.self.inside.inheritance; containment = c.self.inside.containment; players = c.self.inside.players.items } in
    let valid = subst (λ v. IsSome (object_of v.objects c.args.x)) (sym c.self.view_is) c.requires.object in
    let to_valid = subst (λ v. IsValidPlace v.objects c.args.to) (sym c.self.view_is) c.requires.place in
    let free = place_free (would_loop w.containment c.args.x c.args.to) (ap (λ v. place_raises v c.args.x c.args.to) c.self.view_is ∙ c.in_ok-test_place.ensures.raises.0) in
    let tree = c.in_ok-move_to.ensures.ok in
    rw tree (record { formed = place_changed w c.args.x c.args.to c.self.invariant.formed valid to_valid free; counted = c.self.invariant.counted })

use Rattle.std.proofs.Common.{sym, subst}
use Rattle.moo_world_table.proofs.Changing.{IsValidPlace, place_of_nodes}
use Rattle.moo_world.proofs.World.test_place.Goals as goal

pub would_loop-requires : goal.would_loop-requires
would_loop-requires c =
    place_of_nodes c.self.inside.objects.items c.self.inside.containment c.self.invariant.formed.places c.args.to
    (subst (λ v. IsValidPlace v.objects c.args.to) (sym c.self.view_is) c.requires.place)

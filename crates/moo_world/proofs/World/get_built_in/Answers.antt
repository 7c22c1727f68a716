use Rattle.std.proofs.Common.{◌<◌, sym, subst, arith, length}
use Rattle.std.specs.List.{All}
use Rattle.moo_world_tree.proofs.Dissolving.{listed_within}
use Rattle.moo_world.proofs.World.get_built_in.Goals as goal

pub contents_value-requires : goal.contents_value-requires
contents_value-requires c k d h =
    let places = c.self.inside.containment in
    let low = subst (λ ys. All (λ y. y < length places) ys) (sym c.below.ensures) (listed_within places c.self.invariant.formed.places.forest.exact c.args.x) k d h in
    let few = c.self.invariant.formed.few in
    let many = c.self.invariant.formed.places.many in
    omega (arith, low, many, few)

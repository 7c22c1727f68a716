use Rattle.std.proofs.Common.{◌<◌, sym, subst, arith, length}
use Rattle.std.specs.List.{All}
use Rattle.moo_world_tree.proofs.Dissolving.{listed_within}
use Rattle.moo_world.proofs.World.children_of.Goals as goal

pub returns-clause-low : goal.returns-clause-low
returns-clause-low c k d h =
    let nodes = c.self.inside.inheritance in
    let low = subst (λ ys. All (λ y. y < length nodes) ys) (sym c.below.ensures) (listed_within nodes c.self.invariant.formed.parents.forest.exact c.args.x) k d h in
    let few = c.self.invariant.formed.few in
    let many = c.self.invariant.formed.parents.many in
    omega (arith, low, many, few)

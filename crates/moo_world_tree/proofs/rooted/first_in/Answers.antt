use Rattle.std.proofs.Common.{arith, below_more}
use Rattle.moo_world_tree.specs.Rooted.{IsRooted}
use Rattle.moo_world_tree.proofs.rooted.first_in.Goals as goal

pub loop-from-preserved : goal.loop-from-preserved
loop-from-preserved c =
    let e = c.if-not-is_rooted.ensures.ends in
    record { len = omega arith; marked = e.1; below = below_more (λ y. IsRooted c.args.nodes.now y) c.loop-from.from c.loop-from.invariant.below e.0 }

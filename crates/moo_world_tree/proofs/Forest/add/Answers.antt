use Rattle.moo_world_tree.proofs.Climbing.{forest_added}
use Rattle.moo_world_tree.proofs.Forest.add.Goals as goal

pub invariant_of-self-2 : goal.invariant_of-self-2
invariant_of-self-2 c = rw (c.in_ok-push.ensures.items, c.alone.ensures) (forest_added _ c.self.invariant)

use Rattle.std.proofs.Common.{sym, ◌∙◌}
use Rattle.moo_world_tree.proofs.Climbing.{above_within}
use Rattle.moo_world_tree.proofs.Moving.{above_read}
use Rattle.moo_world_tree.proofs.Forest.above.Goals as goal

pub returns-clause-within : goal.returns-clause-within
returns-clause-within c up is =
    rw (← c.self.view_is) (above_within c.self.inside.nodes.items c.self.invariant.exact c.args.x up
    (sym (above_read c.self.inside.nodes.items c.args.x c.index.result.now c.above.result (rw c.self.view_is c.requires) c.index.ensures c.above.ensures) ∙ is))

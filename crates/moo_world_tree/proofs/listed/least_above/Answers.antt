use Rattle.std.proofs.Common.{sym, ◌∙◌}
use Rattle.moo_world_tree.proofs.Moving.{above_read}
use Rattle.moo_world_tree.proofs.Listing.{least_more}
use Rattle.moo_world_tree.proofs.listed.least_above.Goals as goal

pub loop-y-preserved : goal.loop-y-preserved
loop-y-preserved c =
    let up = above_read c.args.nodes.now c.loop-y.y c.index-nodes-y.result c.above.result c.loop-y-test.true c.index-nodes-y.is c.above.ensures in
    least_more c.args.nodes.now c.args.listed.now c.args.limit c.loop-y.least c.lower-least.result c.loop-y.y c.loop-y.invariant c.lower-least.ensures.most
    (λ off k is. c.lower-least.ensures.above off k (up ∙ is)) (λ lower. let why = c.lower-least.ensures.reason lower in (why.0, sym up ∙ why.1))

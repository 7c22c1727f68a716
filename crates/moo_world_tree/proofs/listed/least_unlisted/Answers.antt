use Rattle.std.proofs.Common.{arith}
use Rattle.moo_world_tree.proofs.Listing.{least_is_wrong, all_listed}
use Rattle.moo_world_tree.proofs.listed.least_unlisted.Goals as goal

pub returns-then-least-nodes : goal.returns-then-least-nodes
returns-then-least-nodes c = least_is_wrong c.args.nodes.now c.args.listed.now c.args.limit c.least_above-least.result c.requires c.least_above-least.ensures (omega (arith, c.if-least-nodes.true))

pub returns-else-least-nodes : goal.returns-else-least-nodes
returns-else-least-nodes c = all_listed c.args.nodes.now c.args.listed.now c.args.limit c.least_above-least.result c.requires c.least_above-least.ensures (omega (arith, c.if-least-nodes.false))

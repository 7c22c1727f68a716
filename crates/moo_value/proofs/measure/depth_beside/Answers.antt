use Rattle.std.proofs.Common.{arith}
use Rattle.moo_value.proofs.Joined.{part_nests, front_nests, back_nests, front_depth, back_depth, others_nest, front_nests_most}
use Rattle.moo_value.proofs.measure.depth_beside.Goals as goal

pub list_depth-gone-requires : goal.list_depth-gone-requires
list_depth-gone-requires c = part_nests c.args.elements.now c.args.low c.args.high _ c.requires.whole

pub returns-then-gone-most : goal.returns-then-gone-most
returns-then-gone-most c =
    others_nest c.args.elements.now c.args.low c.args.high c.args.most _ c.requires.whole c.requires.order c.list_depth-gone.ensures c.if-gone-most.true

pub list_depth-before-requires : goal.list_depth-before-requires
list_depth-before-requires c = front_nests c.args.elements.now c.args.low _ c.requires.whole

pub returns-then-before-most : goal.returns-then-before-most
returns-then-before-most c =
    front_nests_most c.args.elements.now c.args.low c.args.high c.args.most _ c.requires.whole c.list_depth-before.ensures c.if-before-most.true

pub list_depth-requires : goal.list_depth-requires
list_depth-requires c = back_nests c.args.elements.now c.args.high _ c.requires.whole

pub returns : goal.returns
returns c =
    omega (arith, c.max.ensures, c.list_depth-before.ensures, front_depth c.args.elements.now c.args.low, c.list_depth.ensures, back_depth c.args.elements.now c.args.high)

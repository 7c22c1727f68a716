use Rattle.std.proofs.Common.{arith, refl}
use Rattle.moo_value.proofs.Joined.{front_stored, back_stored, measured-part, sides_weigh, part_nests}
use Rattle.moo_value.proofs.measure.measured_part.Goals as goal

pub list_weight-front-requires : goal.list_weight-front-requires
list_weight-front-requires c = front_stored c.args.elements.now _ c.args.low refl c.requires.whole.is_value c.requires.whole.limits

pub list_weight-back-requires : goal.list_weight-back-requires
list_weight-back-requires c = back_stored c.args.elements.now _ c.args.high refl c.requires.whole.is_value c.requires.whole.limits

pub overflow_sub-weight : goal.overflow_sub-weight
overflow_sub-weight c =
    let sides = sides_weigh c.args.elements.now c.args.low c.args.high _ _ _ _ c.requires.whole c.requires.order c.list_weight-front.ensures.weight c.list_weight-back.ensures.weight in
    omega (arith, sides)

pub overflow_sub-weight-2 : goal.overflow_sub-weight-2
overflow_sub-weight-2 c =
    let sides = sides_weigh c.args.elements.now c.args.low c.args.high _ _ _ _ c.requires.whole c.requires.order c.list_weight-front.ensures.weight c.list_weight-back.ensures.weight in
    omega (arith, sides)

pub list_depth-depth-requires : goal.list_depth-depth-requires
list_depth-depth-requires c = part_nests c.args.elements.now c.args.low c.args.high _ c.requires.whole.depth_is

pub returns : goal.returns
returns c =
    measured-part c.args.elements.now c.args.low c.args.high _ _ _ _ _ c.requires.whole c.requires.order c.list_weight-front.ensures.weight c.list_weight-back.ensures.weight c.list_depth-depth.ensures

use Rattle.moo_value.proofs.Joined.{part_stored, splice_weighs, measured-splice, too_heavy-splice}
use Rattle.moo_value.proofs.measure.measured_splice.Goals as goal

pub list_weight-removed-requires : goal.list_weight-removed-requires
list_weight-removed-requires c = part_stored c.args.elements.now c.args.low c.args.high _ _ c.requires.whole

pub overflow_sub-weight : goal.overflow_sub-weight
overflow_sub-weight c =
    (splice_weighs c.args.elements.now _ c.args.low c.args.high _ _ _ _ c.requires.whole c.requires.order c.list_weight-removed.ensures.weight c.measure-inner.ensures.weight).0

pub returns-then-weight-gt-WEIGHT_LIMIT-clause-none : goal.returns-then-weight-gt-WEIGHT_LIMIT-clause-none
returns-then-weight-gt-WEIGHT_LIMIT-clause-none c =
    too_heavy-splice c.args.elements.now _ c.args.low c.args.high _ _ _ _ c.requires.whole c.requires.order c.list_weight-removed.ensures.weight c.measure-inner.ensures.weight c.if-weight-gt-WEIGHT_LIMIT.true

pub depth_beside-requires-clause-whole : goal.depth_beside-requires-clause-whole
depth_beside-requires-clause-whole c = c.requires.whole.depth_is

pub returns-clause-some : goal.returns-clause-some
returns-clause-some c =
    rw c.max-depth.ensures
    (measured-splice c.args.elements.now _ c.args.low c.args.high _ _ _ _ _ _ c.requires.whole (c.measure-inner.ensures.value, c.measure-inner.ensures.limits) c.requires.order
    c.list_weight-removed.ensures.weight c.measure-inner.ensures.weight
    c.depth_beside.ensures c.measure-inner.ensures.depth
    c.if-weight-gt-WEIGHT_LIMIT.false)

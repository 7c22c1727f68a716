use Rattle.std.proofs.Common.{refl}
use Rattle.moo_value.specs.Inner.{IsMeasuredList}
use Rattle.moo_value.proofs.Replaced.{tree_in, replaced_weighs}
use Rattle.moo_value.proofs.Places.{measured-remove}
use Rattle.moo_value.proofs.list.MooList.measured_without.Goals as goal

pub overflow_sub-weight : goal.overflow_sub-weight
overflow_sub-weight c =
    let own : IsMeasuredList c.measure-own.result.weight c.measure-own.result.depth c.args.self.now =
    record { weight_is = c.measure-own.ensures.weight; depth_is = c.measure-own.ensures.depth; is_value = c.measure-own.ensures.value; limits = c.measure-own.ensures.limits } in
    let at = tree_in c.elements.result.now c.args.self.now c.args.index c.index-elements-index.result c.elements.ensures.value c.requires c.index-elements-index.is in
    rw c.weight-old.ensures.weight (replaced_weighs _ _ c.args.index _ _ _ refl own c.requires at)

pub returns : goal.returns
returns c =
    let own : IsMeasuredList c.measure-own.result.weight c.measure-own.result.depth c.args.self.now =
    record { weight_is = c.measure-own.ensures.weight; depth_is = c.measure-own.ensures.depth; is_value = c.measure-own.ensures.value; limits = c.measure-own.ensures.limits } in
    let at = tree_in c.elements.result.now c.args.self.now c.args.index c.index-elements-index.result c.elements.ensures.value c.requires c.index-elements-index.is in
    rw c.weight-old.ensures.weight
    (measured-remove _ _ c.args.index _ _ _ _ refl own c.requires at c.depth_around-depth.ensures.depth c.depth_around-depth.ensures.limit)

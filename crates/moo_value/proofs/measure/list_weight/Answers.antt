use Rattle.std.proofs.Common.{◌+◌, take, ap, ◌∙◌, sym, arith}
use Rattle.moo_value.specs.Size.{list_weight}
use Rattle.moo_value.specs.View.{tree, trees}
use Rattle.moo_value.proofs.Lists.{trees-take_more, list_weight-push}
use Rattle.moo_value.proofs.Joined.{front_weighs}
use Rattle.moo_value.proofs.measure.list_weight.Goals as goal

pub overflow_add-total : goal.overflow_add-total
overflow_add-total c =
    let l = c.loop-element in
    let more = trees-take_more c.args.elements.now l.element-index c.element-item.result c.loop-element-test.true c.element-item.is in
    let weighs = ap list_weight more in
    omega (
      arith,
      weighs,
      list_weight-push (trees (take l.element-index c.args.elements.now)) (tree c.element-item.result),
      front_weighs c.args.elements.now (l.element-index + 1),
      l.invariant,
      c.weight-total.ensures.weight,
      c.requires.1.weight,
    )

pub loop-element-preserved : goal.loop-element-preserved
loop-element-preserved c =
    let l = c.loop-element in
    let more = trees-take_more c.args.elements.now l.element-index c.element-item.result c.loop-element-test.true c.element-item.is in
    sym (ap list_weight more ∙ omega (arith, list_weight-push (trees (take l.element-index c.args.elements.now)) (tree c.element-item.result), l.invariant, c.weight-total.ensures.weight))

use Rattle.std.proofs.Common.{arith}
use Rattle.moo_eval_access.proofs.Bounded.{old_weighs, replaced_within}
use Rattle.moo_eval_access.proofs.bounds.list_bounds.Goals as goal

pub overflow_sub-weight : goal.overflow_sub-weight
overflow_sub-weight c =
    rw c.weight-old.ensures.weight (old_weighs c.elements.result.now c.args.list.now c.args.index _ c.index-elements-index.result c.elements.ensures.value c.requires c.index-elements-index.is c.weight.ensures.weight)

pub returns : goal.returns
returns c = λ v bounded.
    let w = replaced_within c.elements.result.now c.args.list.now c.args.index _ _ c.args.heaviest c.args.deepest c.index-elements-index.result v c.elements.ensures.value c.requires c.index-elements-index.is c.weight.ensures.weight c.depth.ensures.depth bounded in
    rw (c.max-depth.ensures, c.weight-old.ensures.weight) (
      w,
      record {
        weight = omega (arith, w.weighs, rw c.weight-old.ensures.weight at c.if-weight-gt-WEIGHT_LIMIT.false);
        depth = omega (arith, w.nests, rw c.max-depth.ensures at c.if-depth-gt-DEPTH_LIMIT.false);
      },
    )

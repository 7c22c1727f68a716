use Rattle.moo_value.specs.View.{tree}
use Rattle.moo_eval_access.proofs.Bounded.{all_taken}
use Rattle.moo_eval_access.proofs.target.is_taken.Goals as goal

pub returns : goal.returns
returns c = λ taken.
    let w = c.is_taking.ensures c.if-not-is_taking.false in
    all_taken c.args.steps.now c.in-Some.outer.now c.in-Some.inner.now (tree c.args.value.now) w.0 c.in-Some.ensures.cases.0 w.1
    (c.are_taken.ensures taken w.0 (rw (c.max-deepest.ensures, c.weight.ensures.weight, c.weight-2.ensures.weight, c.depth.ensures.depth, c.depth-2.ensures.depth) w.2))

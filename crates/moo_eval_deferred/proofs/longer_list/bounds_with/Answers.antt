use Rattle.std.proofs.Common.{◌+◌, arith}
use Rattle.moo_value.specs.View.{tree}
use Rattle.moo_eval_access.proofs.Bounded.{longer_within}
use Rattle.moo_eval_deferred.proofs.ListCalls.{made_within}
use Rattle.moo_eval_deferred.proofs.longer_list.bounds_with.Goals as goal

pub returns-clause-last : goal.returns-clause-last
returns-clause-last c =
    longer_within c.args.list.now (tree c.args.value.now) (c.weight.result + c.weight-2.result) c.max-depth.result (omega (arith, c.weight.ensures.weight, c.weight-2.ensures.weight)) (omega (arith, c.max-depth.ensures, c.depth.ensures.depth, c.depth-2.ensures.depth))

pub returns-clause-made : goal.returns-clause-made
returns-clause-made c =
    λ f rest w h. made_within f c.args.list.now (tree c.args.value.now) w rest _ _ (omega (arith, c.weight.ensures.weight, c.weight-2.ensures.weight)) (omega (arith, c.max-depth.ensures, c.depth.ensures.depth, c.depth-2.ensures.depth)) h

use Rattle.std.proofs.Common.{◌<◌, ℕ, List, Option, None, length, get_or, ap, sym, subst, ◌∙◌, arith}
use Rattle.std.specs.List.{All}
use Rattle.moo_world_tree.specs.Forest.{above_of, below_of}
use Rattle.moo_dbtext.specs.Nexts.{next_or}
use Rattle.moo_dbtext.proofs.NextNumbers.{below_low, next_step}
use Rattle.moo_dbtext.proofs.nexts.put_nexts.Goals as goal

pub put_next-requires : goal.put_next-requires
put_next-requires c = λ k d low.
    let inside : All (λ y. y < length c.args.tree.now) c.below.result = subst (All (λ y. y < length c.args.tree.now)) (sym c.below.ensures) (below_low c.args.tree.now c.is_forest.ensures c.loop-x.x) in
    let below = inside k d low in
    omega (arith, below, c.loop-x.auto.next, c.requires.len)

pub loop-x-preserved : goal.loop-x-preserved
loop-x-preserved c = λ y.
    let tree = c.args.tree.now in
    let x = c.loop-x.x in
    let up = above_of tree y in
    let old = get_or c.loop-x.next y None in
    c.put_next.ensures y ∙ (ap (λ (l : List ℕ). next_or l old y) c.below.ensures ∙ (ap (λ (o : Option ℕ). next_or (below_of tree x) o y) (c.loop-x.invariant y) ∙ next_step tree x y up (c.is_forest.ensures.exact x y)))

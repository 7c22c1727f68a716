use Rattle.std.proofs.Common.{◌++◌, ◌∷◌, [], arith, sym, ◌∙◌, ap, true, append_assoc, append-nil}
use Rattle.std.proofs.lemmas.List.{length-set}
use Rattle.moo_world_tree.proofs.Dissolving.{below_read}
use Rattle.moo_world_tree.proofs.Listing.{more_held, next_held, wrong_list}
use Rattle.moo_world_tree.proofs.listed.mark_list.Goals as goal
use Rattle.moo_world_tree.proofs.listed.mark_list.Goals.{In-Some, In-None}

pub returns-then-not-is_fresh-clause-read : goal.returns-then-not-is_fresh-clause-read
returns-then-not-is_fresh-clause-read c =
    let row = c.below-below.result in
    let whole = below_read c.args.nodes.now c.args.x c.index-nodes-x.result row c.requires.node c.index-nodes-x.is c.below-below.ensures in
    let all = c.loop-y.invariant.whole ∙ c.into_iter-y-iterator.ensures.into_iter_gives in
    let parts = sym whole ∙ sym all ∙ ap (λ rest. c.loop-y.yielded ++ rest) c.in-Some.ensures.steps in
    record {
      len = c.loop-y.invariant.len;
      most = let node = c.requires.node in omega (arith, node);
      marked = (c.loop-y.yielded, c.loop-y.invariant.marked);
      wrong = λ low exact. wrong_list c.args.nodes.now c.loop-y.listed c.args.x c.in-Some.y c.loop-y.yielded c.next.new.self parts c.if-not-is_fresh.ensures c.loop-y.invariant.marked exact;
    }

pub loop-y-preserved : goal.loop-y-preserved
loop-y-preserved c =
    let fresh = c.if-not-is_fresh.ensures in
    record {
      len = length-set c.loop-y.listed c.in-Some.y true ∙ c.loop-y.invariant.len;
      whole = append_assoc c.loop-y.yielded (c.in-Some.y ∷ []) c.next.new.self ∙ sym (ap (λ rest. c.loop-y.yielded ++ rest) c.in-Some.ensures.steps) ∙ c.loop-y.invariant.whole;
      marked = more_held c.args.nodes.now c.loop-y.listed c.args.x c.in-Some.y c.loop-y.yielded (let low = fresh.0 in omega (arith, low, c.loop-y.invariant.len)) fresh.1 fresh.2 c.loop-y.invariant.marked;
    }

pub returns-clause-read : goal.returns-clause-read
returns-clause-read c =
    let row = c.below-below.result in
    let whole = below_read c.args.nodes.now c.args.x c.index-nodes-x.result row c.requires.node c.index-nodes-x.is c.below-below.ensures in
    let all = sym (append-nil c.loop-y.yielded) ∙ sym (ap (λ rest. c.loop-y.yielded ++ rest) c.in-None.ensures.steps.0) ∙ c.loop-y.invariant.whole ∙ c.into_iter-y-iterator.ensures.into_iter_gives in
    next_held c.args.nodes.now c.loop-y.listed c.args.x c.loop-y.yielded (all ∙ whole) c.loop-y.invariant.marked

use Rattle.std.proofs.Common.{◌≡◌, ◌<◌, Some, None, sym, ◌∙◌, ap, arith, length}
use Rattle.std.proofs.lemmas.List.{get_or_read}
use Rattle.std.proofs.lemmas.Bool.{ne_eqb, or_from}
use Rattle.moo_world_tree.specs.Forest.{alone, above_of}
use Rattle.moo_world_tree.proofs.Climbing.{any_step, any_none, above_within}
use Rattle.moo_world_tree.proofs.Forest.is_within.Goals as goal
use Rattle.moo_world_tree.proofs.Forest.is_within.Goals.{In-Some, In-None}

pub returns-in-None : goal.returns-in-None
returns-in-None c =
    let nodes = c.args.self.now in
    let read = get_or_read nodes c.loop.at c.index.result.now c.loop.invariant.within (rw c.self.view_is at c.index.ensures) alone in
    let above : above_of nodes c.loop.at ≡ None = ap (λ n. n.above) (sym read) ∙ sym c.in-None.ensures in
    sym (or_from _ _ (ne_eqb _ _ (λ e. c.if-x-top.false (sym e))) (c.loop.invariant.rest ∙ any_none nodes _ c.loop.at c.args.top above))

pub loop-preserved : goal.loop-preserved
loop-preserved c =
    let nodes = c.args.self.now in
    let read = get_or_read nodes c.loop.at c.index.result.now c.loop.invariant.within (rw c.self.view_is at c.index.ensures) alone in
    let above : above_of nodes c.loop.at ≡ Some c.in-Some.up = ap (λ n. n.above) (sym read) ∙ sym c.in-Some.ensures in
    record {
      within = above_within nodes (rw c.self.view_is at c.self.invariant.exact) c.loop.at c.in-Some.up above;
      rest = c.loop.invariant.rest ∙ any_step nodes _ _ c.loop.at c.in-Some.up c.args.top (let same = ap length c.self.view_is in let room : c.loop.counter < length nodes = omega (arith, same, c.len-end.ensures, c.self.inside.nodes.ok.0) in omega arith) above (ne_eqb _ _ (λ e. c.if-at-top.false (sym e)));
    }

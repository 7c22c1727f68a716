use Rattle.std.proofs.Common.{sym, ◌∙◌, ap, subst}
use Rattle.moo_world_tree.specs.Forest.{Links}
use Rattle.moo_dbtext_restore.specs.Lists.{IsFollowed}
use Rattle.moo_dbtext_restore.proofs.Noded.{one_more_made}
use Rattle.moo_dbtext_restore.proofs.nodes.nodes_along.Goals as goal

pub loop-x-preserved : goal.loop-x-preserved
loop-x-preserved c =
    rw c.in_ok-push.ensures.items
    (one_more_made c.args.links.now c.loop-x.taken c.list_below.new.taken c.loop-x.nodes.items c.in_ok-node.node c.loop-x.x c.loop-x.invariant c.in_ok-below.ensures.len
    (ap (λ (n : Links). n.above) c.in_ok-node.ensures ∙ c.above_in.ensures.value)
    (subst (λ (n : Links). IsFollowed c.args.links.now c.loop-x.x n.below) (sym c.in_ok-node.ensures) (subst (IsFollowed c.args.links.now c.loop-x.x) (sym c.deref.ensures.value) c.in_ok-below.ensures.list))
    c.in_ok-below.ensures.taken)

use Rattle.std.proofs.Common.{◌≡◌, ◌<◌, ◌∙◌, sym, ap, subst, arith, length, ℕ, Some, false}
use Rattle.std.specs.List.{All}
use Rattle.moo_world_tree.specs.Forest.{below_of, dissolved, is_within}
use Rattle.moo_world_tree.proofs.Climbing.{above_within}
use Rattle.moo_world_tree.proofs.Moving.{above_read, IsPlace}
use Rattle.moo_world_tree.proofs.Dissolving.{dissolved_so, below_read, listed_within, length_put, length_joined_so, length_out_so, forest_dissolved, once_so}
use Rattle.moo_world_tree.proofs.Forest.dissolve.Goals as goal

pub join_all-requires : goal.join_all-requires
join_all-requires c =
    let nodes = c.self.inside.nodes.items in
    let node : c.args.x < length nodes = rw c.self.view_is c.requires.node in
    let listed : c.deref-2.result.now ≡ below_of nodes c.args.x = c.deref-2.ensures.value ∙ c.in_ok-below.ensures ∙ below_read nodes c.args.x c.index-3.result.now c.below.result node c.index-3.ensures c.below.ensures in
    let len = length_put nodes c.deref.result.now c.args.heir c.put_all_below.new.nodes.items c.in_ok-put_all_below.ensures.ok in
    λ k d h. (let low = subst (λ ys. All (λ y. y < length nodes) ys) (sym listed) (listed_within nodes c.self.invariant.exact c.args.x) k d h in omega (arith, low, len, c.put_all_below.new.nodes.ok.0))

pub take_out-requires-clause-node : goal.take_out-requires-clause-node
take_out-requires-clause-node c up is =
    let nodes = c.self.inside.nodes.items in
    let node : c.args.x < length nodes = rw c.self.view_is c.requires.node in
    let from = above_read nodes c.args.x c.index.result.now c.above-from.result node c.index.ensures c.above-from.ensures in
    let within = above_within nodes c.self.invariant.exact c.args.x up (sym from ∙ is) in
    let put = length_put nodes c.deref.result.now c.args.heir c.put_all_below.new.nodes.items c.in_ok-put_all_below.ensures.ok in
    let joined = length_joined_so c.put_all_below.new.nodes.items c.deref-2.result.now c.args.heir c.join_all.new.nodes.items c.join_all.ensures in
    omega (arith, within, put, joined, c.join_all.new.nodes.ok.0)

pub take_out-requires-clause-once : goal.take_out-requires-clause-once
take_out-requires-clause-once c up is =
    let nodes = c.self.inside.nodes.items in
    let node : c.args.x < length nodes = rw c.self.view_is c.requires.node in
    let place : IsPlace nodes c.args.heir = rw c.self.view_is c.requires.place in
    let read = below_read nodes c.args.x c.index-3.result.now c.below.result node c.index-3.ensures c.below.ensures in
    once_so nodes c.args.x c.args.heir c.deref.result.now c.deref-2.result.now c.put_all_below.new.nodes.items c.join_all.new.nodes.items c.self.invariant place
    (c.deref.ensures.value ∙ c.in_ok-below.ensures ∙ read) (c.deref-2.ensures.value ∙ c.in_ok-below.ensures ∙ read)
    c.in_ok-put_all_below.ensures.ok c.join_all.ensures up

pub index_mut-requires : goal.index_mut-requires
index_mut-requires c =
    let nodes = c.self.inside.nodes.items in
    let node : c.args.x < length nodes = rw c.self.view_is c.requires.node in
    let put = length_put nodes c.deref.result.now c.args.heir c.put_all_below.new.nodes.items c.in_ok-put_all_below.ensures.ok in
    let joined = length_joined_so c.put_all_below.new.nodes.items c.deref-2.result.now c.args.heir c.join_all.new.nodes.items c.join_all.ensures in
    let out = length_out_so c.join_all.new.nodes.items c.args.x c.above-from.result c.take_out.new.nodes.items c.take_out.ensures in
    omega (arith, node, put, joined, out, c.take_out.new.nodes.ok.0)

pub invariant_of-self-2 : goal.invariant_of-self-2
invariant_of-self-2 c =
    let nodes = c.self.inside.nodes.items in
    let node : c.args.x < length nodes = rw c.self.view_is c.requires.node in
    let place : IsPlace nodes c.args.heir = rw c.self.view_is c.requires.place in
    let apart : (up : ℕ) → c.args.heir ≡ Some up → is_within nodes up c.args.x ≡ false = rw c.self.view_is c.requires.apart in
    let from = above_read nodes c.args.x c.index.result.now c.above-from.result node c.index.ensures c.above-from.ensures in
    let read = below_read nodes c.args.x c.index-3.result.now c.below.result node c.index-3.ensures c.below.ensures in
    let same = dissolved_so nodes c.args.x c.args.heir c.above-from.result c.deref.result.now c.deref-2.result.now c.put_all_below.new.nodes.items c.join_all.new.nodes.items c.take_out.new.nodes.items c.leave_all.new.self
    c.self.invariant node place from (c.deref.ensures.value ∙ c.in_ok-below.ensures ∙ read) (c.deref-2.ensures.value ∙ c.in_ok-below.ensures ∙ read)
    c.in_ok-put_all_below.ensures.ok c.join_all.ensures c.take_out.ensures c.leave_all.ensures in
    rw same (forest_dissolved nodes c.args.x c.args.heir c.self.invariant node place apart)

pub returns : goal.returns
returns c =
    let nodes = c.self.inside.nodes.items in
    let node : c.args.x < length nodes = rw c.self.view_is c.requires.node in
    let place : IsPlace nodes c.args.heir = rw c.self.view_is c.requires.place in
    let from = above_read nodes c.args.x c.index.result.now c.above-from.result node c.index.ensures c.above-from.ensures in
    let read = below_read nodes c.args.x c.index-3.result.now c.below.result node c.index-3.ensures c.below.ensures in
    let same = dissolved_so nodes c.args.x c.args.heir c.above-from.result c.deref.result.now c.deref-2.result.now c.put_all_below.new.nodes.items c.join_all.new.nodes.items c.take_out.new.nodes.items c.leave_all.new.self
    c.self.invariant node place from (c.deref.ensures.value ∙ c.in_ok-below.ensures ∙ read) (c.deref-2.ensures.value ∙ c.in_ok-below.ensures ∙ read)
    c.in_ok-put_all_below.ensures.ok c.join_all.ensures c.take_out.ensures c.leave_all.ensures in
    record { ok = same ∙ ap (λ ns. dissolved ns c.args.x c.args.heir) c.self.view_is; err = tt }

use Rattle.std.proofs.Common.{◌≡◌, ◌<◌, ◌∙◌, sym, ap, subst, arith, length, ℕ, None, Some, false, refl}
use Rattle.std.specs.List.{All}
use Rattle.moo_world_tree.specs.Forest.{below_of, dissolved, is_within}
use Rattle.moo_world_tree.proofs.Climbing.{above_within}
use Rattle.moo_world_tree.proofs.Moving.{above_read, IsPlace}
use Rattle.moo_world_tree.proofs.Dissolving.{dissolved_so, listed_within, length_joined_so, length_out_so, forest_dissolved, once_so}
use Rattle.moo_world_tree.proofs.Forest.scatter.Goals as goal

pub join_all-requires : goal.join_all-requires
join_all-requires c =
    let nodes = c.self.inside.nodes.items in
    let listed : c.args.below.now ≡ below_of nodes c.args.x = c.requires.all ∙ ap (λ ns. below_of ns c.args.x) (sym c.self.view_is) in
    λ k d h. (let low = subst (λ ys. All (λ y. y < length nodes) ys) (sym listed) (listed_within nodes c.self.invariant.exact c.args.x) k d h in omega (arith, low, c.self.inside.nodes.ok.0))

pub take_out-requires-clause-node : goal.take_out-requires-clause-node
take_out-requires-clause-node c up is =
    let nodes = c.self.inside.nodes.items in
    let node : c.args.x < length nodes = rw c.self.view_is c.requires.node in
    let from = above_read nodes c.args.x c.index.result.now c.above-from.result node c.index.ensures c.above-from.ensures in
    let within = above_within nodes c.self.invariant.exact c.args.x up (sym from ∙ is) in
    let joined = length_joined_so nodes c.args.below.now None c.join_all.new.nodes.items c.join_all.ensures in
    omega (arith, within, joined, c.join_all.new.nodes.ok.0)

pub take_out-requires-clause-once : goal.take_out-requires-clause-once
take_out-requires-clause-once c up is =
    let nodes = c.self.inside.nodes.items in
    let place : IsPlace nodes None = λ q isq. cc in
    let listed : c.args.below.now ≡ below_of nodes c.args.x = c.requires.all ∙ ap (λ ns. below_of ns c.args.x) (sym c.self.view_is) in
    once_so nodes c.args.x None c.args.below.now c.args.below.now nodes c.join_all.new.nodes.items c.self.invariant place listed listed refl c.join_all.ensures up

pub index_mut-requires : goal.index_mut-requires
index_mut-requires c =
    let nodes = c.self.inside.nodes.items in
    let node : c.args.x < length nodes = rw c.self.view_is c.requires.node in
    let joined = length_joined_so nodes c.args.below.now None c.join_all.new.nodes.items c.join_all.ensures in
    let out = length_out_so c.join_all.new.nodes.items c.args.x c.above-from.result c.take_out.new.nodes.items c.take_out.ensures in
    omega (arith, node, joined, out, c.take_out.new.nodes.ok.0)

pub invariant_of-self : goal.invariant_of-self
invariant_of-self c =
    let nodes = c.self.inside.nodes.items in
    let node : c.args.x < length nodes = rw c.self.view_is c.requires.node in
    let place : IsPlace nodes None = λ up is. cc in
    let apart : (up : ℕ) → None ≡ Some up → is_within nodes up c.args.x ≡ false = λ up is. cc in
    let from = above_read nodes c.args.x c.index.result.now c.above-from.result node c.index.ensures c.above-from.ensures in
    let listed : c.args.below.now ≡ below_of nodes c.args.x = c.requires.all ∙ ap (λ ns. below_of ns c.args.x) (sym c.self.view_is) in
    let same = dissolved_so nodes c.args.x None c.above-from.result c.args.below.now c.args.below.now nodes c.join_all.new.nodes.items c.take_out.new.nodes.items c.leave_all.new.self
    c.self.invariant node place from listed listed refl c.join_all.ensures c.take_out.ensures c.leave_all.ensures in
    rw same (forest_dissolved nodes c.args.x None c.self.invariant node place apart)

pub returns : goal.returns
returns c =
    let nodes = c.self.inside.nodes.items in
    let node : c.args.x < length nodes = rw c.self.view_is c.requires.node in
    let place : IsPlace nodes None = λ up is. cc in
    let from = above_read nodes c.args.x c.index.result.now c.above-from.result node c.index.ensures c.above-from.ensures in
    let listed : c.args.below.now ≡ below_of nodes c.args.x = c.requires.all ∙ ap (λ ns. below_of ns c.args.x) (sym c.self.view_is) in
    let same = dissolved_so nodes c.args.x None c.above-from.result c.args.below.now c.args.below.now nodes c.join_all.new.nodes.items c.take_out.new.nodes.items c.leave_all.new.self
    c.self.invariant node place from listed listed refl c.join_all.ensures c.take_out.ensures c.leave_all.ensures in
    same ∙ ap (λ ns. dissolved ns c.args.x None) c.self.view_is

use Rattle.std.proofs.Common.{◌≡◌, sym, ◌∙◌, ap, arith, length, set}
use Rattle.moo_world_tree.specs.Forest.{moved}
use Rattle.moo_world_tree.proofs.Climbing.{above_within}
use Rattle.moo_world_tree.proofs.Moving.{moved_in_steps, moved_elsewhere, forest_relinked, relinked, length_newest, above_read, once_moved}
use Rattle.moo_world_tree.proofs.Forest.move_to.Goals as goal
use Rattle.moo_world_tree.proofs.Forest.move_to.Goals.{After-self-1}

pub take_out-requires-clause-node : goal.take_out-requires-clause-node
take_out-requires-clause-node c up is =
    let nodes = c.self.inside.nodes.items in
    let from = above_read nodes c.args.x c.index.result.now c.above-from.result (rw c.self.view_is c.requires.node) c.index.ensures c.above-from.ensures in
    let within = above_within nodes c.self.invariant.exact c.args.x up (sym from ∙ is) in
    let len = ap length c.in_ok-put_below.ensures.ok ∙ length_newest nodes c.args.x c.args.to in
    omega (arith, within, len, c.put_below.new.nodes.ok.0)

pub take_out-requires-clause-once : goal.take_out-requires-clause-once
take_out-requires-clause-once c up is =
    let nodes = c.self.inside.nodes.items in
    once_moved nodes c.put_below.new.nodes.items c.args.x c.args.to c.above-from.result c.self.invariant.exact (rw c.self.view_is c.requires.place)
    (sym c.eq.ensures ∙ c.if-eq.false) c.in_ok-put_below.ensures.ok up is

-- the nodes at the end
comes_to : (c : After-self-1) → set c.take_out.new.nodes.items c.args.x c.set_above.new.self ≡ relinked c.self.inside.nodes.items c.args.x c.args.to
comes_to c =
    let nodes = c.self.inside.nodes.items in
    moved_in_steps nodes c.put_below.new.nodes.items c.take_out.new.nodes.items c.args.x c.args.to c.above-from.result c.index_mut.result.now c.set_above.new.self
    c.self.invariant.exact (rw c.self.view_is c.requires.node) (rw c.self.view_is c.requires.place)
    (above_read nodes c.args.x c.index.result.now c.above-from.result (rw c.self.view_is c.requires.node) c.index.ensures c.above-from.ensures)
    (sym c.eq.ensures ∙ c.if-eq.false) c.in_ok-put_below.ensures.ok c.take_out.ensures c.index_mut.ensures.value c.set_above.ensures

pub invariant_of-self-2 : goal.invariant_of-self-2
invariant_of-self-2 c =
    let same = comes_to c in
    rw same (forest_relinked c.self.inside.nodes.items c.args.x c.args.to c.self.invariant (rw c.self.view_is c.requires.node) (rw c.self.view_is c.requires.place) (rw c.self.view_is c.requires.apart))

pub returns-clause-ok : goal.returns-clause-ok
returns-clause-ok c =
    let nodes = c.self.inside.nodes.items in
    let from = above_read nodes c.args.x c.index.result.now c.above-from.result (rw c.self.view_is c.requires.node) c.index.ensures c.above-from.ensures in
    comes_to c ∙ sym (moved_elsewhere nodes c.args.x c.args.to c.above-from.result from (sym c.eq.ensures ∙ c.if-eq.false))
    ∙ ap (λ ns. moved ns c.args.x c.args.to) c.self.view_is

use Rattle.std.proofs.Common.{◌<◌, ◌∙◌, ap, arith, length, refl}
use Rattle.std.proofs.lemmas.List.{get_or_read}
use Rattle.moo_world_tree.specs.Forest.{below_of}
use Rattle.moo_world_tree.proofs.Walking.{walk_begun, walk_more, walk_ended, walk_short, node_within}
use Rattle.moo_world_tree.proofs.Forest.walk_down.Goals as goal
use Rattle.moo_world_tree.proofs.Forest.walk_down.Goals.{In_ok-add_steps}

pub loop-i-init : goal.loop-i-init
loop-i-init c = rw (c.in_ok-push.ensures.items, c.new-walk.ensures.items) (walk_begun c.args.self.now c.args.x (record { node = c.args.x; from = 0 }) refl)

pub below-requires : goal.below-requires
below-requires c =
    let here : c.loop-i.i < length c.loop-i.walk.items = omega (arith, c.loop-i-test.true, c.len.ensures, c.loop-i.walk.ok.0) in
    let read = get_or_read c.loop-i.walk.items c.loop-i.i c.index.result.now here c.index.ensures (record { node = 0; from = 0 }) in
    rw read (node_within c.args.self.now c.is_forest.ensures c.args.x c.loop-i.i c.loop-i.walk.items c.loop-i.invariant c.requires c.loop-i.i here)

pub loop-i-smaller : goal.loop-i-smaller
loop-i-smaller c =
    let here : c.loop-i.i < length c.loop-i.walk.items = omega (arith, c.loop-i-test.true, c.len.ensures, c.loop-i.walk.ok.0) in
    let short = walk_short c.args.self.now c.is_forest.ensures c.args.x c.loop-i.i c.loop-i.walk.items c.loop-i.invariant c.requires in
    omega (arith, here, short)

pub loop-i-preserved : goal.loop-i-preserved
loop-i-preserved c =
    let here : c.loop-i.i < length c.loop-i.walk.items = omega (arith, c.loop-i-test.true, c.len.ensures, c.loop-i.walk.ok.0) in
    let read = get_or_read c.loop-i.walk.items c.loop-i.i c.index.result.now here c.index.ensures (record { node = 0; from = 0 }) in
    rw c.in_ok-add_steps.ensures (walk_more c.args.self.now c.is_forest.ensures c.args.x c.loop-i.i c.loop-i.walk.items c.loop-i.invariant c.below.result here
    (c.below.ensures ∙ ap (λ s. below_of c.args.self.now s.node) read))

pub returns : goal.returns
returns c = walk_ended c.args.self.now c.is_forest.ensures c.args.x c.loop-i.i c.loop-i.walk.items c.loop-i.invariant (omega (arith, c.loop-i-test.false, c.len.ensures, c.loop-i.walk.ok.0))
